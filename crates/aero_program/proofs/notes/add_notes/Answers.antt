use Rattle.std.proofs.Common.{◌≡◌, ◌∙◌, ◌++◌, ap, ap₂, Bool, List, ℕ, Option, bytes_eq, map, subst, take}
use Rattle.aero_telling.specs.declared.notable.FaultyLine.{FaultyLine}
use Rattle.aero_program.specs.Traces.{input_of}
use Rattle.aero_report.specs.Asked.{note_of}
use Rattle.aero_program.specs.declared.reason.Reason.{Reason}
use Rattle.aero_program.specs.declared.stamp.Stamp.{Stamp}
use Rattle.aero_program.specs.Inputs.{opened_of, reason_of, start_of}
use Rattle.aero_program.specs.Looks.{ShowsAs}
use Rattle.aero_program.specs.Notes.{block_notes, fault_notes, faulty_in, is_unchecked, mark_notes, reason_notes, sentence_on, size_notes}
use Rattle.aero_program.specs.Starts.{byte_order_mark, gzip_mark}
use Rattle.aero_program.proofs.Noting.{five_parts}
use Rattle.aero_program.proofs.notes.add_notes.Goals as goal

pub returns : goal.returns
returns g c =
    let name : List ℕ = c.args.source.now.name.items in
    let words : Bool = c.args.are_words in
    let fault : Option FaultyLine = c.faulty_in-fault.result in
    let faulty : Option FaultyLine = faulty_in c.args.found.notable in
    let same_fault : fault ≡ faulty = c.faulty_in-fault.ensures in
    let unchecked : Bool = is_unchecked c.args.found.notable in
    let is_gzip : Bool = bytes_eq (take 2 (start_of (input_of c.args.source.now.reader))) gzip_mark in
    let sentence : List ℕ = sentence_on is_gzip faulty c.look-seen.result in
    let compressed : c.is_gzip.result ≡ is_gzip = c.is_gzip.ensures ∙ ap (λ i. bytes_eq (take 2 (start_of i)) gzip_mark) c.input-input.ensures in
    let mark : c.has_mark.result ≡ bytes_eq (start_of (input_of c.args.source.now.reader)) byte_order_mark =
    c.has_mark.ensures ∙ ap (λ i. bytes_eq (start_of i) byte_order_mark) c.input-input.ensures in
    let why : c.reason.result ≡ reason_of (input_of c.args.source.now.reader) = c.reason.ensures ∙ ap (λ i. reason_of i) c.input-input.ensures in
    let opened : c.opened.result ≡ opened_of (input_of c.args.source.now.reader) = c.opened.ensures ∙ ap (λ i. opened_of i) c.input-input.ensures in
    let told : c.in_ok-sentence.sentence.items ≡ sentence = c.in_ok-sentence.ensures ∙ ap (λ (b : Bool). sentence_on b fault c.look-seen.result) compressed ∙ ap (λ (f : Option FaultyLine). sentence_on is_gzip f c.look-seen.result) same_fault in
    record {
      look = c.look-seen.result;
      shown = subst (λ (f : Option FaultyLine). ShowsAs g.G.Opener.holds name (opened_of (input_of c.args.source.now.reader)) f c.look-seen.result) same_fault
          (subst (λ (n : List ℕ). ShowsAs g.G.Opener.holds n (opened_of (input_of c.args.source.now.reader)) fault c.look-seen.result) c.as_slice-name.ensures.value
          (subst (λ (o : Option Stamp). ShowsAs g.G.Opener.holds c.as_slice-name.result.now o fault c.look-seen.result) opened c.look-seen.ensures));
      grown = five_parts (map note_of c.args.notes.now.items) (mark_notes name (bytes_eq (start_of (input_of c.args.source.now.reader)) byte_order_mark))
          (reason_notes words name (reason_of (input_of c.args.source.now.reader))) (size_notes name c.args.found.too_large) (block_notes name unchecked) (fault_notes name faulty sentence)
          (map note_of c.add_mark.new.notes.items) (map note_of c.add_reason.new.notes.items) (map note_of c.add_size.new.notes.items) (map note_of c.add_unchecked.new.notes.items) (map note_of c.add_fault.new.notes.items)
          (c.in_ok-add_mark.ensures ∙ ap₂ (λ (n : List ℕ) (b : Bool). map note_of c.args.notes.now.items ++ mark_notes n b) c.as_slice-name.ensures.value mark)
          (c.in_ok-add_reason.ensures ∙ ap₂ (λ (n : List ℕ) (r : Option Reason). map note_of c.add_mark.new.notes.items ++ reason_notes words n r) c.as_slice-name.ensures.value why)
          (c.in_ok-add_size.ensures ∙ ap (λ (n : List ℕ). map note_of c.add_reason.new.notes.items ++ size_notes n c.args.found.too_large) c.as_slice-name.ensures.value)
          (c.in_ok-add_unchecked.ensures ∙ ap₂ (λ (n : List ℕ) (b : Bool). map note_of c.add_size.new.notes.items ++ block_notes n b) c.as_slice-name.ensures.value c.is_unchecked.ensures)
          (c.in_ok-add_fault.ensures ∙ ap₂ (λ (n t : List ℕ). map note_of c.add_unchecked.new.notes.items ++ fault_notes n fault t) c.as_slice-name.ensures.value told
          ∙ ap (λ (f : Option FaultyLine). map note_of c.add_unchecked.new.notes.items ++ fault_notes name f sentence) same_fault);
    }

use Rattle.std.proofs.Common.{◌≡◌, ℕ, ◌<◌, ◌≤◌, min, List, [], None, Some, IfSome, length, take, refl, sym, ap, subst, ◌∙◌, rules, arith, take-take, length-take-le}
use Rattle.std.specs.declared.option.Option.{Option}
use Rattle.std.specs.Io.{StartsWith}
use Rattle.std.specs.Io.KnownBytes.{Keeps}
use Rattle.std.specs.Io.BufRead.{FillKeeps}
use Rattle.aero_faults.proofs.short.ShortBufRead.fill_buf.Goals as goal

-- what the reader within showed, cut where a line would be too long
front-shown : (a b : Option (List ℕ)) (buffered : Option ℕ) (shown : List ℕ) (room n : ℕ) → 0 < room → n ≡ min (length shown) room
    → IfSome a (λ xs. StartsWith xs shown) → IfSome a (λ xs. length shown ≡ 0 → xs ≡ [])
    → Keeps a b → IfSome a (λ _. IfSome buffered (λ k. length shown ≤ k))
    → (Keeps a b × IfSome a (λ _. IfSome buffered (λ k. length (take n shown) ≤ k)))
    × IfSome a (λ xs. StartsWith xs (take n shown))
    × IfSome a (λ xs. length (take n shown) ≡ 0 → xs ≡ [])
front-shown None b buffered shown room n some is front end kept fits = ((tt, tt), tt, tt)
front-shown (Some xs) None buffered shown room n some is front end kept fits = absurd kept
front-shown (Some xs) (Some ys) buffered shown room n some is front end kept fits = (
  (kept, less buffered fits),
  ap (λ k. take k xs) long ∙ sym (take-take n (length shown) xs (omega arith)) ∙ ap (take n) front,
  λ none. end (omega (arith, long)),
)
  where
    long : length (take n shown) ≡ n
    long = length-take-le n shown (omega arith)

    less : (o : Option ℕ) → IfSome o (λ k. length shown ≤ k) → IfSome o (λ k. length (take n shown) ≤ k)
    less None h = tt
    less (Some k) h = omega (arith, long)

pub returns : goal.returns
returns g c =
    let inner = c.in_ok-available in
    let rested = c.fill_buf.follows.lender-at-none in
    let filled = subst (FillKeeps _ (g.B.Read.remaining rested) (g.B.BufRead.consumable_len rested)) inner.was c.fill_buf.follows.holds-at-none in
    let shown = front-shown _ _ _ inner.available.now _ _ (search rules) c.least-shown.ensures inner.ensures.front inner.ensures.end filled.0 filled.1 in
    ((refl, λ _. tt, shown.0), record { front = shown.1; end = shown.2; after_borrow = tt })

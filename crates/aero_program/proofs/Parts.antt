-- A text that is appended part by part.
use Rattle.std.proofs.Common.{◌≡◌, ◌∙◌, List, ℕ, ◌++◌, ap, append_assoc}

two_parts : (old one two first second : List ℕ) → first ≡ old ++ one → second ≡ first ++ two → second ≡ old ++ (one ++ two)
two_parts old one two first second p q = q ∙ ap (λ l. l ++ two) p ∙ append_assoc old one two

pub four_parts_of_a_line : (old one two three four first second third fourth : List ℕ) → first ≡ old ++ one → second ≡ first ++ two → third ≡ second ++ three → fourth ≡ third ++ four
    → fourth ≡ old ++ (one ++ two ++ three ++ four)
four_parts_of_a_line old one two three four first second third fourth p q r s =
    two_parts old (one ++ two ++ three) four third fourth (two_parts old (one ++ two) three second third (two_parts old one two first second p q) r) s

five_parts : (old one two three four five first second third fourth fifth : List ℕ) → first ≡ old ++ one → second ≡ first ++ two
    → third ≡ second ++ three → fourth ≡ third ++ four → fifth ≡ fourth ++ five
    → fifth ≡ old ++ (one ++ two ++ three ++ four ++ five)
five_parts old one two three four five first second third fourth fifth p q r s t =
    two_parts old (one ++ two ++ three ++ four) five fourth fifth
    (two_parts old (one ++ two ++ three) four third fourth
    (two_parts old (one ++ two) three second third (two_parts old one two first second p q) r) s) t

pub six_parts : (old one two three four five six first second third fourth fifth sixth : List ℕ) → first ≡ old ++ one → second ≡ first ++ two
    → third ≡ second ++ three → fourth ≡ third ++ four → fifth ≡ fourth ++ five → sixth ≡ fifth ++ six
    → sixth ≡ old ++ (one ++ two ++ three ++ four ++ five ++ six)
six_parts old one two three four five six first second third fourth fifth sixth p q r s t u =
    two_parts old (one ++ two ++ three ++ four ++ five) six fifth sixth (five_parts old one two three four five first second third fourth fifth p q r s t) u

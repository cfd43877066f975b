-- Texts that are appended one after another.
use Rattle.std.specs.Prelude.{◌≡◌, ℕ, List, ◌++◌, Result, Ok, Err, OnOk}
use Rattle.std.proofs.Common.{◌∙◌, ap, append_assoc}

joined : (l a b c d e : List ℕ) → ((((l ++ a) ++ b) ++ c) ++ d) ++ e ≡ l ++ (a ++ (b ++ (c ++ (d ++ e))))
joined l a b c d e =
    append_assoc (((l ++ a) ++ b) ++ c) d e
    ∙ append_assoc ((l ++ a) ++ b) c (d ++ e)
    ∙ append_assoc (l ++ a) b (c ++ (d ++ e))
    ∙ append_assoc l a (b ++ (c ++ (d ++ e)))

pub five_told : {T E : Type 0} → (r : Result T E) (l a b c d e x1 x2 x3 x4 x5 : List ℕ) → x1 ≡ l ++ a → x2 ≡ x1 ++ b → x3 ≡ x2 ++ c → x4 ≡ x3 ++ d → OnOk r (x5 ≡ x4 ++ e) → OnOk r (x5 ≡ l ++ (a ++ (b ++ (c ++ (d ++ e)))))
five_told (Ok done) l a b c d e x1 x2 x3 x4 x5 p q r s t =
    t
    ∙ ap (λ (x : List ℕ). x ++ e) (s ∙ ap (λ (x : List ℕ). x ++ d) (r ∙ ap (λ (x : List ℕ). x ++ c) (q ∙ ap (λ (x : List ℕ). x ++ b) p)))
    ∙ joined l a b c d e
five_told (Err why) l a b c d e x1 x2 x3 x4 x5 p q r s t = tt

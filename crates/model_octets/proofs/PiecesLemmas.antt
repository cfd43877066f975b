-- Lists in pieces.
use Rattle.std.specs.Prelude.{◌≡◌, List, [], ◌∷◌, ◌++◌, length, refl}
use Rattle.std.proofs.Common.{arith}

-- two cuts of one list behind fronts of one length are one cut
pub split_same : {X : Type 0} → (a b x y : List X) → length a ≡ length b → a ++ x ≡ b ++ y → (a ≡ b) × (x ≡ y)
split_same [] [] x y l e = (refl, e)
split_same [] (b ∷ bs) x y l e = absurd (omega (arith, l))
split_same (a ∷ us) [] x y l e = absurd (omega (arith, l))
split_same (a ∷ us) (b ∷ bs) x y l e =
    let h : a ≡ b = cc in
    let t : us ++ x ≡ bs ++ y = cc in
    let n : length us ≡ length bs = omega (arith, l) in
    let r : (us ≡ bs) × (x ≡ y) = split_same us bs x y n t in
    (cc (r.0, h), r.1)

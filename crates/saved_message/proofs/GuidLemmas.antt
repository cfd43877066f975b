-- A GUID of three texts.
use Rattle.std.proofs.Common.{◌≡◌, ℕ, List, [], ◌∷◌, ◌++◌, refl, ◌∙◌, ap, append-nil, arith, length, get_or}

eight_octets : (xs ys : List ℕ) → length xs ≡ 8 → get_or xs 0 0 ∷ get_or xs 1 0 ∷ get_or xs 2 0 ∷ get_or xs 3 0 ∷ get_or xs 4 0 ∷ get_or xs 5 0 ∷ get_or xs 6 0 ∷ get_or xs 7 0 ∷ ys ≡ xs ++ ys
eight_octets [] ys long = absurd (omega (arith, long))
eight_octets (a ∷ []) ys long = absurd (omega (arith, long))
eight_octets (a ∷ b ∷ []) ys long = absurd (omega (arith, long))
eight_octets (a ∷ b ∷ c ∷ []) ys long = absurd (omega (arith, long))
eight_octets (a ∷ b ∷ c ∷ d ∷ []) ys long = absurd (omega (arith, long))
eight_octets (a ∷ b ∷ c ∷ d ∷ e ∷ []) ys long = absurd (omega (arith, long))
eight_octets (a ∷ b ∷ c ∷ d ∷ e ∷ f ∷ []) ys long = absurd (omega (arith, long))
eight_octets (a ∷ b ∷ c ∷ d ∷ e ∷ f ∷ g ∷ []) ys long = absurd (omega (arith, long))
eight_octets (a ∷ b ∷ c ∷ d ∷ e ∷ f ∷ g ∷ h ∷ []) ys long = refl
eight_octets (a ∷ b ∷ c ∷ d ∷ e ∷ f ∷ g ∷ h ∷ z ∷ rest) ys long = absurd (omega (arith, long))

four_octets : (xs ys : List ℕ) → length xs ≡ 4 → get_or xs 0 0 ∷ get_or xs 1 0 ∷ get_or xs 2 0 ∷ get_or xs 3 0 ∷ ys ≡ xs ++ ys
four_octets [] ys long = absurd (omega (arith, long))
four_octets (a ∷ []) ys long = absurd (omega (arith, long))
four_octets (a ∷ b ∷ []) ys long = absurd (omega (arith, long))
four_octets (a ∷ b ∷ c ∷ []) ys long = absurd (omega (arith, long))
four_octets (a ∷ b ∷ c ∷ d ∷ []) ys long = refl
four_octets (a ∷ b ∷ c ∷ d ∷ z ∷ rest) ys long = absurd (omega (arith, long))

pub sixteen_octets : (first second third : List ℕ) → length first ≡ 8 → length second ≡ 4 → length third ≡ 4
    → get_or first 0 0 ∷ get_or first 1 0 ∷ get_or first 2 0 ∷ get_or first 3 0 ∷ get_or first 4 0 ∷ get_or first 5 0 ∷ get_or first 6 0 ∷ get_or first 7 0 ∷ get_or second 0 0 ∷ get_or second 1 0 ∷ get_or second 2 0 ∷ get_or second 3 0 ∷ get_or third 0 0 ∷ get_or third 1 0 ∷ get_or third 2 0 ∷ get_or third 3 0 ∷ [] ≡ first ++ (second ++ third)
sixteen_octets first second third a b c =
    eight_octets first (get_or second 0 0 ∷ get_or second 1 0 ∷ get_or second 2 0 ∷ get_or second 3 0 ∷ get_or third 0 0 ∷ get_or third 1 0 ∷ get_or third 2 0 ∷ get_or third 3 0 ∷ []) a
    ∙ ap (λ (x : List ℕ). first ++ x) (four_octets second (get_or third 0 0 ∷ get_or third 1 0 ∷ get_or third 2 0 ∷ get_or third 3 0 ∷ []) b ∙ ap (λ (x : List ℕ). second ++ x) (four_octets third [] c ∙ append-nil third))

-- The best of what passes, which a fold keeps.
use Rattle.map_rows.proofs.Common.{◌⊎◌, ◌≡◌, Bool, true, false, cond, Option, Some, None, List, [], ◌∷◌, filter, find, fold, All, refl, sym, ◌∙◌, ap, subst, inl, inr, All-head, All-tail}

-- what a step keeps, of the best so far and an item
pub record IsKeeping {X : Type 0} (keeps : X → X → Bool) (step : Option X → X → Option X) : Type 0 where
  pub first : (x : X) → step None x ≡ Some x
  pub more : (a x : X) → step (Some a) x ≡ cond (keeps a x) (Some a) (Some x)

-- an item that passes is the best, or the best is kept over it, and it isn't kept over the best
abbrev pub IsNoBetter : {X : Type 0} → (X → X → Bool) → (X → Bool) → X → X → Type 0
IsNoBetter keeps p best x = p x ≡ true → (x ≡ best) ⊎ ((keeps best x ≡ true) × (keeps x best ≡ false))

chosen_same : {X : Type 0} → (b : Bool) (x : X) → cond b (Some x) (Some x) ≡ Some x
chosen_same true x = refl
chosen_same false x = refl

stays_at : {X : Type 0} → (keeps : X → X → Bool) (step : Option X → X → Option X) (best x : X) → IsKeeping keeps step → (x ≡ best) ⊎ ((keeps best x ≡ true) × (keeps x best ≡ false)) → step (Some best) x ≡ Some best
stays_at keeps step best x k (inl e) = k.more best x ∙ ap (λ (y : _). cond (keeps best x) (Some best) (Some y)) e ∙ chosen_same (keeps best x) best
stays_at keeps step best x k (inr h) = k.more best x ∙ ap (λ (b : Bool). cond b (Some best) (Some x)) h.0

stay_step : {X : Type 0} → (keeps : X → X → Bool) (step : Option X → X → Option X) (p : X → Bool) (best x : X) (xs : List X) (b : Bool) → p x ≡ b → IsKeeping keeps step → IsNoBetter keeps p best x
    → fold step (Some best) (filter p xs) ≡ Some best → fold step (Some best) (cond b (x ∷ filter p xs) (filter p xs)) ≡ Some best
stay_step keeps step p best x xs true h k less rest = ap (λ (o : Option _). fold step o (filter p xs)) (stays_at keeps step best x k (less h)) ∙ rest
stay_step keeps step p best x xs false h k less rest = rest

stays : {X : Type 0} → (keeps : X → X → Bool) (step : Option X → X → Option X) (p : X → Bool) (best : X) (xs : List X) → IsKeeping keeps step → All (IsNoBetter keeps p best) xs → fold step (Some best) (filter p xs) ≡ Some best
stays keeps step p best [] k a = refl
stays keeps step p best (x ∷ xs) k a = stay_step keeps step p best x xs (p x) refl k (All-head (IsNoBetter keeps p best) x xs a) (stays keeps step p best xs k (All-tail (IsNoBetter keeps p best) x xs a))

-- what was kept before the best came
abbrev IsWorse : {X : Type 0} → (X → X → Bool) → X → Option X → Type 0
IsWorse keeps best None = Unit {0}
IsWorse keeps best (Some a) = keeps a best ≡ false

takes_best : {X : Type 0} → (keeps : X → X → Bool) (step : Option X → X → Option X) (best : X) (o : Option X) → IsKeeping keeps step → IsWorse keeps best o → step o best ≡ Some best
takes_best keeps step best None k w = k.first best
takes_best keeps step best (Some a) k w = k.more a best ∙ ap (λ (b : Bool). cond b (Some a) (Some best)) w

worse_chosen : {X : Type 0} → (keeps : X → X → Bool) (best a x : X) (b : Bool) → keeps a best ≡ false → keeps x best ≡ false → IsWorse keeps best (cond b (Some a) (Some x))
worse_chosen keeps best a x true p q = p
worse_chosen keeps best a x false p q = q

worse_still : {X : Type 0} → (keeps : X → X → Bool) (step : Option X → X → Option X) (best x : X) (o : Option X) → IsKeeping keeps step → IsWorse keeps best o → keeps x best ≡ false → IsWorse keeps best (step o x)
worse_still keeps step best x None k w h = subst (IsWorse keeps best) (sym (k.first x)) h
worse_still keeps step best x (Some a) k w h = subst (IsWorse keeps best) (sym (k.more a x)) (worse_chosen keeps best a x (keeps a x) w h)

it_comes : {X : Type 0} → (keeps : X → X → Bool) (step : Option X → X → Option X) (best x : X) (ys : List X) (o : Option X) → IsKeeping keeps step → IsWorse keeps best o → x ≡ best → fold step (Some best) ys ≡ Some best → fold step (step o x) ys ≡ Some best
it_comes keeps step best x ys o k w e stay = ap (λ (r : Option _). fold step r ys) (ap (step o) e ∙ takes_best keeps step best o k w) ∙ stay

other_comes : {X : Type 0} → (keeps : X → X → Bool) (step : Option X → X → Option X) (best x : X) (ys : List X) (o : Option X) → IsKeeping keeps step → IsWorse keeps best o → (x ≡ best) ⊎ ((keeps best x ≡ true) × (keeps x best ≡ false))
    → fold step (Some best) ys ≡ Some best → ((r : Option X) → IsWorse keeps best r → fold step r ys ≡ Some best) → fold step (step o x) ys ≡ Some best
other_comes keeps step best x ys o k w (inl e) stay rest = it_comes keeps step best x ys o k w e stay
other_comes keeps step best x ys o k w (inr h) stay rest = rest (step o x) (worse_still keeps step best x o k w h.1)

best_step : {X : Type 0} → (keeps : X → X → Bool) (step : Option X → X → Option X) (p q : X → Bool) (best x : X) (xs : List X) (o : Option X) (b c : Bool) → q x ≡ b → p x ≡ c → IsKeeping keeps step → IsWorse keeps best o → p best ≡ true → IsNoBetter keeps p best x
    → fold step (Some best) (filter p xs) ≡ Some best → (find q xs ≡ Some best → (r : Option X) → IsWorse keeps best r → fold step r (filter p xs) ≡ Some best)
    → cond b (Some x) (find q xs) ≡ Some best → fold step o (cond c (x ∷ filter p xs) (filter p xs)) ≡ Some best
best_step keeps step p q best x xs o true true hq hp k w pb less stay rest f = it_comes keeps step best x (filter p xs) o k w (let e : Some x ≡ Some best = f in cc e) stay
best_step keeps step p q best x xs o true false hq hp k w pb less stay rest f = let e : x ≡ best = cc f in absurd (let h : true ≡ false = sym pb ∙ ap p (sym e) ∙ hp in cc h)
best_step keeps step p q best x xs o false true hq hp k w pb less stay rest f = other_comes keeps step best x (filter p xs) o k w (less hp) stay (rest f)
best_step keeps step p q best x xs o false false hq hp k w pb less stay rest f = rest f o w

-- the best of what passes is what the fold keeps
pub best_kept : {X : Type 0} → (keeps : X → X → Bool) (step : Option X → X → Option X) (p q : X → Bool) (best : X) (xs : List X) (o : Option X) → IsKeeping keeps step → IsWorse keeps best o → find q xs ≡ Some best → p best ≡ true → All (IsNoBetter keeps p best) xs → fold step o (filter p xs) ≡ Some best
best_kept keeps step p q best [] o k w f pb a = absurd (let e : None ≡ Some best = f in cc e)
best_kept keeps step p q best (x ∷ xs) o k w f pb a =
    best_step keeps step p q best x xs o (q x) (p x) refl refl k w pb (All-head (IsNoBetter keeps p best) x xs a)
    (stays keeps step p best xs k (All-tail (IsNoBetter keeps p best) x xs a))
    (λ g r v. best_kept keeps step p q best xs r k v g pb (All-tail (IsNoBetter keeps p best) x xs a)) f

-- where nothing passes, nothing is kept
pub none_kept : {X : Type 0} → (step : Option X → X → Option X) (p : X → Bool) (xs : List X) → All (λ x. p x ≡ false) xs → fold step None (filter p xs) ≡ None
none_kept step p [] a = refl
none_kept step p (x ∷ xs) a = let h : p x ≡ false = All-head (λ y. p y ≡ false) x xs a in rw h (none_kept step p xs (All-tail (λ y. p y ≡ false) x xs a))

-- Laws of the rows of a log.
use Rattle.std.specs.Prelude.{◌≡◌, Bool, true, false, List, [], ◌∷◌, ◌++◌, flat_map, map, filter, not, cond, All, refl}
use Rattle.std.specs.List.{AllByRecursion}
use Rattle.std.proofs.Common.{sym, ap, ◌∙◌, append_assoc, append-nil}
use Rattle.std.proofs.lemmas.List.Elements.{All-nil, All-cons, All-head, All-tail, All-append, All-weaker}
use Rattle.model_meaning.specs.Rows.{Rules, row_behind, rows_of}

flat_append : {X Y : Type 0} → (f : X → List Y) (xs ys : List X) → flat_map f (xs ++ ys) ≡ flat_map f xs ++ flat_map f ys
flat_append f [] ys = refl
flat_append f (x ∷ xs) ys = rw (flat_append f xs ys) (sym (append_assoc (f x) _ _))

flat_same : {X Y : Type 0} → (f g : X → List Y) → ((x : X) → f x ≡ g x) → (xs : List X) → flat_map f xs ≡ flat_map g xs
flat_same f g h [] = refl
flat_same f g h (x ∷ xs) = rw (h x, flat_same f g h xs) refl

flat_flat : {X Y Z : Type 0} → (f : X → List Y) (g : Y → List Z) (xs : List X) → flat_map (λ x. flat_map g (f x)) xs ≡ flat_map g (flat_map f xs)
flat_flat f g [] = refl
flat_flat f g (x ∷ xs) = rw (flat_append g (f x) (flat_map f xs), flat_flat f g xs) refl

behind_cond : {E R : Type 0} → (rules : Rules E R) (ys : List E) (gone : Bool) (a b : List R) → a ≡ flat_map (row_behind rules ys) b → cond gone [] a ≡ flat_map (row_behind rules ys) (cond gone [] b)
behind_cond rules ys true a b h = refl
behind_cond rules ys false a b h = h

pub behind_more : {E R : Type 0} → (rules : Rules E R) (xs ys : List E) (row : R) → row_behind rules (xs ++ ys) row ≡ flat_map (row_behind rules ys) (row_behind rules xs row)
behind_more rules [] ys row = sym (append-nil _)
behind_more rules (x ∷ xs) ys row = behind_cond rules ys (rules.removes x row) _ _ (behind_more rules xs ys (rules.changed x row))

-- more entries change or remove the rows so far, and make theirs
pub rows_more : {E R : Type 0} → (rules : Rules E R) (xs ys : List E) → rows_of rules (xs ++ ys) ≡ flat_map (row_behind rules ys) (rows_of rules xs) ++ rows_of rules ys
rows_more rules [] ys = refl
rows_more rules (x ∷ xs) ys =
    rw (
      flat_append (row_behind rules ys) (flat_map (row_behind rules xs) (rules.made x)) (rows_of rules xs),
      ← flat_flat (row_behind rules xs) (row_behind rules ys) (rules.made x),
      flat_same (row_behind rules (xs ++ ys)) (λ row. flat_map (row_behind rules ys) (row_behind rules xs row)) (behind_more rules xs ys) (rules.made x),
      rows_more rules xs ys,
    )
    (sym (append_assoc (flat_map (λ row. flat_map (row_behind rules ys) (row_behind rules xs row)) (rules.made x)) _ _))

one_row : {E R : Type 0} → (rules : Rules E R) (gone : Bool) (row : R) (rows : List R) (more : List R) → cond gone [] (row ∷ []) ++ more ≡ cond (not gone) (row ∷ more) more
one_row rules true row rows more = refl
one_row rules false row rows more = refl

filtered : {R : Type 0} → (f : R → R) (gone : Bool) (row : R) (rest : List R) → cond (not gone) (f row ∷ map f rest) (map f rest) ≡ map f (cond (not gone) (row ∷ rest) rest)
filtered f true row rest = refl
filtered f false row rest = refl

-- one entry behind some rows: those that it removes leave, the others are changed
pub behind_one : {E R : Type 0} → (rules : Rules E R) (e : E) (rows : List R) → flat_map (row_behind rules (e ∷ [])) rows ≡ map (rules.changed e) (filter (λ row. not (rules.removes e row)) rows)
behind_one rules e [] = refl
behind_one rules e (row ∷ rows) =
    rw (behind_one rules e rows)
    (one_row rules (rules.removes e row) (rules.changed e row) rows (map (rules.changed e) (filter (λ r. not (rules.removes e r)) rows))
    ∙ filtered (rules.changed e) (rules.removes e row) row (filter (λ r. not (rules.removes e r)) rows))

-- one entry more at the end of a log
pub one_more : {E R : Type 0} → (rules : Rules E R) (es : List E) (e : E) → rows_of rules (es ++ e ∷ []) ≡ map (rules.changed e) (filter (λ row. not (rules.removes e row)) (rows_of rules es)) ++ rules.made e
one_more rules es e = rows_more rules es (e ∷ []) ∙ rw (behind_one rules e (rows_of rules es)) (ap (λ (t : _). map (rules.changed e) (filter (λ row. not (rules.removes e row)) (rows_of rules es)) ++ t) (alone (rules.made e)))
  where
    alone : (made : _) → flat_map (row_behind rules []) made ++ [] ≡ made
    alone [] = refl
    alone (r ∷ rs) = ap (λ (t : _). r ∷ t) (alone rs)

-- ---- what holds of all rows

pub all_flat : {X Y : Type 0} → (P : Y → Type 0) (f : X → List Y) (xs : List X) → All (λ x. All P (f x)) xs → All P (flat_map f xs)
all_flat P f [] h = All-nil P
all_flat P f (x ∷ xs) h = All-append P (f x) (flat_map f xs) (All-head (λ y. All P (f y)) x xs h) (all_flat P f xs (All-tail (λ y. All P (f y)) x xs h))

behind_step : {E R : Type 0} → (rules : Rules E R) (P : R → Type 0) (e : E) (es : List E) (row : R) (gone : Bool) → All P (row_behind rules es (rules.changed e row)) → All P (cond gone [] (row_behind rules es (rules.changed e row)))
behind_step rules P e es row true h = All-nil P
behind_step rules P e es row false h = h

-- what holds of a row and stays as entries change it
pub behind_all : {E R : Type 0} → (rules : Rules E R) (Q : E → Type 0) (P : R → Type 0) → ((entry : E) (row : R) → Q entry → P row → P (rules.changed entry row)) → (entries : List E) (row : R) → AllByRecursion Q entries → P row
    → All P (row_behind rules entries row)
behind_all rules Q P keeps [] row q h = All-cons P row [] h (All-nil P)
behind_all rules Q P keeps (e ∷ es) row q h = behind_step rules P e es row (rules.removes e row) (behind_all rules Q P keeps es (rules.changed e row) q.1 (keeps e row q.0 h))

-- what holds of the rows that entries make, and stays as entries change them
pub rows_all : {E R : Type 0} → (rules : Rules E R) (Q : E → Type 0) (P : R → Type 0) → ((entry : E) → Q entry → All P (rules.made entry)) → ((entry : E) (row : R) → Q entry → P row → P (rules.changed entry row))
    → (entries : List E) → AllByRecursion Q entries → All P (rows_of rules entries)
rows_all rules Q P makes keeps [] h = All-nil P
rows_all rules Q P makes keeps (e ∷ es) h =
    All-append P (flat_map (row_behind rules es) (rules.made e)) (rows_of rules es)
    (all_flat P (row_behind rules es) (rules.made e) (All-weaker P (λ row. All P (row_behind rules es row)) (λ row p. behind_all rules Q P keeps es row h.1 p) (rules.made e) (makes e h.0)))
    (rows_all rules Q P makes keeps es h.1)

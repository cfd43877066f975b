-- The order of names: a rank for each, which rises with it.
use Rattle.std.proofs.Common.{inl, inr, ◌≡◌, ◌≢◌, ◌⊎◌, ℕ, ◌+◌, ◌-◌, ◌*◌, ◌^◌, ◌<◌, ◌≤◌, suc, List, [], ◌∷◌, length, All, Option, Some, None, refl, sym, ◌∙◌, ap, subst, arith, lit<}
use Rattle.std.specs.Prelude.{IfSome}
use Rattle.std.proofs.Math.Nat.{mul-le-mul_right, pow-succ', suc-mul}
use Rattle.std.proofs.lemmas.List.Elements.{All-head, All-tail}
use Rattle.std.proofs.lemmas.Bool.{cases_order}
use Rattle.std.specs.Cmp.{nat_cmp_is}
use Rattle.std.specs.Ordering.{nat_cmp, ordering_then, ordering_reverse}
use Rattle.std.specs.Cmp.Lexicographic.{slice_cmp}
use Rattle.std.specs.declared.cmp.Ordering.{Ordering}
use Rattle.std.specs.declared.cmp.Ordering.TheVariants.{Less, Equal, Greater}
use Rattle.disk_model.specs.Disk.{IsPast}
use Rattle.disk_model.specs.contracts.name.FileNameOrd.TheImpl.{ghosts}
use Rattle.disk_model.specs.contracts.name.FileNameOrd.TheImpl.Laws.{total-law}
use Rattle.disk_model.specs.declared.name.FileName.{FileName}
use Rattle.disk_model.specs.declared.name.FileName.TheVariants as file
use Rattle.disk_model.specs.Name.{IsNameInRange}

-- ---- numbers

less_not_greater : Less ≡ Greater → ⊥
less_not_greater e = cc

less_nat : (x y : ℕ) → nat_cmp x y ≡ Less → x < y
less_nat x y e = elim (cases_order x y) [
  | inl same ↦ absurd (let h : Equal ≡ nat_cmp x y = nat_cmp_is x y Equal same in let k : Equal ≡ Less = h ∙ e in cc)
  | inr (inl l) ↦ l
  | inr (inr g) ↦ absurd (let h : Greater ≡ nat_cmp x y = nat_cmp_is x y Greater g in let k : Greater ≡ Less = h ∙ e in cc)
]

same_nat : (x y : ℕ) → nat_cmp x y ≡ Equal → x ≡ y
same_nat x y e = elim (cases_order x y) [
  | inl same ↦ same
  | inr (inl l) ↦ absurd (let h : Less ≡ nat_cmp x y = nat_cmp_is x y Less l in let k : Less ≡ Equal = h ∙ e in cc)
  | inr (inr g) ↦ absurd (let h : Greater ≡ nat_cmp x y = nat_cmp_is x y Greater g in let k : Greater ≡ Equal = h ∙ e in cc)
]

then_less : (o p : Ordering) → ordering_then o p ≡ Less → (o ≡ Less) ⊎ ((o ≡ Equal) × (p ≡ Less))
then_less Less p e = inl refl
then_less Equal p e = inr (refl, e)
then_less Greater p e = absurd (let k : Greater ≡ Less = e in cc)

then_equal : (o p : Ordering) → ordering_then o p ≡ Equal → (o ≡ Equal) × (p ≡ Equal)
then_equal Less p e = absurd (let k : Less ≡ Equal = e in cc)
then_equal Equal p e = (refl, e)
then_equal Greater p e = absurd (let k : Greater ≡ Equal = e in cc)

-- a number of two digits
pair_less : (base a b i j : ℕ) → i < base → (a < b) ⊎ ((a ≡ b) × (i < j)) → a * base + i < b * base + j
pair_less base a b i j small (inl l) =
    let m : suc a * base ≤ b * base = mul-le-mul_right {m = suc a} {n = b} base l in
    let s : suc a * base ≡ a * base + base = suc-mul a base in
    omega (arith, m, s)
pair_less base a b i j small (inr same) =
    let e : a * base ≡ b * base = ap (λ (x : ℕ). x * base) same.0 in
    omega (arith, e, same.1)

-- ---- octets

value : List ℕ → ℕ
value [] = 0
value (x ∷ xs) = x * 256 ^ length xs + value xs

value_small : (xs : List ℕ) → All (λ x. x < 256) xs → value xs < 256 ^ length xs
unfolding value
value_small [] all = lit< tt
value_small (x ∷ xs) all =
    let rest : value xs < 256 ^ length xs = value_small xs (All-tail (λ x. x < 256) x xs all) in
    let first : x < 256 = All-head (λ x. x < 256) x xs all in
    let more : x * 256 ^ length xs + value xs < 256 * 256 ^ length xs + 0 = pair_less (256 ^ length xs) x 256 (value xs) 0 rest (inl first) in
    let power : 256 ^ suc (length xs) ≡ 256 * 256 ^ length xs = pow-succ' 256 (length xs) in
    omega (arith, more, power)

value_less : (xs ys : List ℕ) → length xs ≡ length ys → All (λ x. x < 256) xs → slice_cmp nat_cmp xs ys ≡ Less → value xs < value ys
unfolding value
value_less [] [] long all e = absurd (let k : Equal ≡ Less = e in cc)
value_less [] (y ∷ ys) long all e = absurd (omega (arith, long))
value_less (x ∷ xs) [] long all e = absurd (omega (arith, long))
value_less (x ∷ xs) (y ∷ ys) long all e =
    let l : length xs ≡ length ys = omega (arith, long) in
    let rest : value xs < 256 ^ length xs = value_small xs (All-tail (λ x. x < 256) x xs all) in
    let first : (x < y) ⊎ ((x ≡ y) × (value xs < value ys)) = elim (then_less (nat_cmp x y) (slice_cmp nat_cmp xs ys) e) [
      | inl less ↦ inl (less_nat x y less)
      | inr same ↦ inr (same_nat x y same.0, value_less xs ys l (All-tail (λ x. x < 256) x xs all) same.1)
    ] in
    subst (λ (n : ℕ). x * 256 ^ length xs + value xs < y * 256 ^ n + value ys) l (pair_less (256 ^ length xs) x y (value xs) (value ys) rest first)

same_list : (xs ys : List ℕ) → slice_cmp nat_cmp xs ys ≡ Equal → xs ≡ ys
same_list [] [] e = refl
same_list [] (y ∷ ys) e = absurd (let k : Less ≡ Equal = e in cc)
same_list (x ∷ xs) [] e = absurd (let k : Greater ≡ Equal = e in cc)
same_list (x ∷ xs) (y ∷ ys) e =
    let parts = then_equal (nat_cmp x y) (slice_cmp nat_cmp xs ys) e in
    let first : x ≡ y = same_nat x y parts.0 in
    let rest : xs ≡ ys = same_list xs ys parts.1 in
    cc

-- ---- names

kind : FileName → ℕ
kind file.Root = 0
kind (file.Map g) = 1
kind (file.Box k g) = 2
kind (file.Mail n) = 3
kind (file.Inst hash id) = 4

most : ℕ
most = 256 ^ 20 * 256 ^ 16

own : FileName → ℕ
own file.Root = 0
own (file.Map g) = g
own (file.Box k g) = k * 2 ^ 32 + g
own (file.Mail n) = n
own (file.Inst hash id) = value hash * 256 ^ 16 + value id

two_numbers : (k g : ℕ) → k < 2 ^ 32 → g < 2 ^ 32 → k * 2 ^ 32 + g < 2 ^ 32 * 2 ^ 32 + 0
two_numbers k g a b = pair_less (2 ^ 32) k (2 ^ 32) g 0 b (inl a)

own_small : (name : FileName) → IsNameInRange name → own name < most
unfolding own most
own_small file.Root r = lit< tt
own_small (file.Map g) r = omega (arith, r)
own_small (file.Box k g) r = let h = two_numbers k g r.0 r.1 in omega (arith, h)
own_small (file.Mail n) r = omega (arith, r)
own_small (file.Inst hash id) r =
    let a : value hash < 256 ^ 20 = subst (λ (n : ℕ). value hash < 256 ^ n) r.0 (value_small hash r.2) in
    let b : value id < 256 ^ 16 = subst (λ (n : ℕ). value id < 256 ^ n) r.1 (value_small id r.3) in
    let h = pair_less (256 ^ 16) (value hash) (256 ^ 20) (value id) 0 b (inl a) in
    omega (arith, h)

-- the rank of a name
pub name_rank : FileName → ℕ
name_rank name = kind name * most + own name

own_less : (base a b i j : ℕ) → i < base → i < j → a ≡ b → a * base + i < b * base + j
own_less base a b i j small less same = pair_less base a b i j small (inr (same, less))

pub rank_less : (a b : FileName) → IsNameInRange a → IsNameInRange b → ghosts.cmp a b ≡ Less → name_rank a < name_rank b
unfolding name_rank own kind
rank_less file.Root file.Root r s e = absurd (let k : Equal ≡ Less = e in cc)
rank_less (file.Map g) (file.Map h) r s e = own_less most 1 1 g h (own_small (file.Map g) r) (less_nat g h e) refl
rank_less (file.Box k g) (file.Box l h) r s e =
    let less : k * 2 ^ 32 + g < l * 2 ^ 32 + h = pair_less (2 ^ 32) k l g h r.1 (elim (then_less (nat_cmp k l) (nat_cmp g h) e) [
      | inl a ↦ inl (less_nat k l a)
      | inr same ↦ inr (same_nat k l same.0, less_nat g h same.1)
    ]) in
    own_less most 2 2 (k * 2 ^ 32 + g) (l * 2 ^ 32 + h) (own_small (file.Box k g) r) less refl
rank_less (file.Mail n) (file.Mail m) r s e = own_less most 3 3 n m (own_small (file.Mail n) r) (less_nat n m e) refl
rank_less (file.Inst a i) (file.Inst b j) r s e =
    let small : value i < 256 ^ 16 = subst (λ (n : ℕ). value i < 256 ^ n) r.1 (value_small i r.3) in
    let less : value a * 256 ^ 16 + value i < value b * 256 ^ 16 + value j = pair_less (256 ^ 16) (value a) (value b) (value i) (value j) small (elim (then_less (slice_cmp nat_cmp a b) (slice_cmp nat_cmp i j) e) [
      | inl x ↦ inl (value_less a b (r.0 ∙ sym s.0) r.2 x)
      | inr same ↦ inr (ap value (same_list a b same.0), value_less i j (r.1 ∙ sym s.1) r.3 same.1)
    ]) in
    own_less most 4 4 (value a * 256 ^ 16 + value i) (value b * 256 ^ 16 + value j) (own_small (file.Inst a i) r) less refl
rank_less a b r s e = pair_less most (kind a) (kind b) (own a) (own b) (own_small a r) (inl (less_nat (kind a) (kind b) e))

-- more than each rank
pub rank_limit : ℕ
rank_limit = 5 * most

kind_small : (name : FileName) → kind name < 5
unfolding kind
kind_small file.Root = lit< tt
kind_small (file.Map g) = lit< tt
kind_small (file.Box k g) = lit< tt
kind_small (file.Mail n) = lit< tt
kind_small (file.Inst hash id) = lit< tt

pub rank_below : (name : FileName) → IsNameInRange name → name_rank name < rank_limit
unfolding name_rank rank_limit
rank_below name r = let h = pair_less most (kind name) 5 (own name) 0 (own_small name r) (inl (kind_small name)) in omega (arith, h)

-- how far a walk over names has come, and how much is left of it

rank_passed : Option FileName → ℕ
rank_passed None = 0
rank_passed (Some name) = name_rank name + 1

pub names_left : Option FileName → ℕ
names_left last = (rank_limit + 1) - rank_passed last

pub walk_shrinks : (last : Option FileName) (name : FileName) → IfSome last IsNameInRange → IsNameInRange name → IsPast ghosts.cmp last name → names_left (Some name) < names_left last
unfolding names_left rank_passed
walk_shrinks None name r s past = let b = rank_below name s in omega (arith, b)
walk_shrinks (Some last) name r s past = let b = rank_below name s in let l = rank_less last name r s past in omega (arith, b, l)

-- two names whose order is neither way are one
pub same_order : (a b : FileName) → ghosts.cmp a b ≡ Equal → a ≡ b
unfolding kind
same_order file.Root file.Root e = refl
same_order (file.Map g) (file.Map h) e = ap file.Map (same_nat g h e)
same_order (file.Box k g) (file.Box l h) e =
    let parts = then_equal (nat_cmp k l) (nat_cmp g h) e in
    let first : k ≡ l = same_nat k l parts.0 in
    let second : g ≡ h = same_nat g h parts.1 in
    cc
same_order (file.Mail n) (file.Mail m) e = ap file.Mail (same_nat n m e)
same_order (file.Inst a i) (file.Inst b j) e =
    let parts = then_equal (slice_cmp nat_cmp a b) (slice_cmp nat_cmp i j) e in
    let first : a ≡ b = same_list a b parts.0 in
    let second : i ≡ j = same_list i j parts.1 in
    cc
same_order a b e = absurd (omega (arith, same_nat (kind a) (kind b) e))

pub order_cases : (a b : FileName) → (ghosts.cmp a b ≡ Less) ⊎ ((ghosts.cmp b a ≡ Less) ⊎ (a ≡ b))
order_cases a b = by (ghosts.cmp a b) refl
  where
    by : (o : Ordering) → ghosts.cmp a b ≡ o → (ghosts.cmp a b ≡ Less) ⊎ ((ghosts.cmp b a ≡ Less) ⊎ (a ≡ b))
    by Less e = inl e
    by Equal e = inr (inr (same_order a b e))
    by Greater e = inr (inl (total-law.antisymm b a ∙ ap ordering_reverse e))

pub not_itself : (a : FileName) → ghosts.cmp a a ≡ Less → ⊥
not_itself a e = let h : Less ≡ Greater = sym e ∙ total-law.antisymm a a ∙ ap ordering_reverse e in less_not_greater h

-- a name that isn't less than another, and isn't it, is past it
pub past_other : (other name : FileName) → other ≢ name → (ghosts.cmp other name ≡ Less → ⊥) → ghosts.cmp name other ≡ Less
past_other other name apart least = elim (order_cases other name) [
  | inl less ↦ absurd (least less)
  | inr (inl greater) ↦ greater
  | inr (inr same) ↦ absurd (apart same)
]

-- the order, by kind and then by numbers or octets

nat_less : (x y : ℕ) → x < y → nat_cmp x y ≡ Less
nat_less x y l = sym (nat_cmp_is x y Less l)

first_decides : (o p : Ordering) → o ≡ Less → ordering_then o p ≡ Less
first_decides o p e = ap (λ (q : Ordering). ordering_then q p) e

second_decides : (o p : Ordering) → o ≡ Equal → p ≡ Less → ordering_then o p ≡ Less
second_decides o p e f = ap (λ (q : Ordering). ordering_then q p) e ∙ f

same_nat_order : (x : ℕ) → nat_cmp x x ≡ Equal
same_nat_order x = sym (nat_cmp_is x x Equal refl)

same_list_order : (xs : List ℕ) → slice_cmp nat_cmp xs xs ≡ Equal
same_list_order [] = refl
same_list_order (x ∷ xs) = ap (λ (o : Ordering). ordering_then o (slice_cmp nat_cmp xs xs)) (same_nat_order x) ∙ same_list_order xs

pub maps-order : (g h : ℕ) → g < h → ghosts.cmp (file.Map g) (file.Map h) ≡ Less
maps-order g h l = nat_less g h l

pub boxes-order : (k l g h : ℕ) → (k < l) ⊎ ((k ≡ l) × (g < h)) → ghosts.cmp (file.Box k g) (file.Box l h) ≡ Less
boxes-order k l g h (inl less) = first_decides (nat_cmp k l) (nat_cmp g h) (nat_less k l less)
boxes-order k l g h (inr same) =
    second_decides (nat_cmp k l) (nat_cmp g h) (subst (λ (n : ℕ). nat_cmp k n ≡ Equal) same.0 (same_nat_order k)) (nat_less g h same.1)

pub mails-order : (n m : ℕ) → n < m → ghosts.cmp (file.Mail n) (file.Mail m) ≡ Less
mails-order n m l = nat_less n m l

pub insts-order : (a b i j : List ℕ) → (slice_cmp nat_cmp a b ≡ Less) ⊎ ((a ≡ b) × (slice_cmp nat_cmp i j ≡ Less)) → ghosts.cmp (file.Inst a i) (file.Inst b j) ≡ Less
insts-order a b i j (inl less) = first_decides (slice_cmp nat_cmp a b) (slice_cmp nat_cmp i j) less
insts-order a b i j (inr same) =
    second_decides (slice_cmp nat_cmp a b) (slice_cmp nat_cmp i j) (subst (λ (xs : List ℕ). slice_cmp nat_cmp a xs ≡ Equal) same.0 (same_list_order a)) same.1

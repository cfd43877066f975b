-- Walks over the names of logs and of instances.
use Rattle.std.specs.Prelude.{◌≡◌, ◌≢◌, ◌⊎◌, ◌≤◌, ◌<◌, ◌+◌, ◌==◌, max, ℕ, List, true, false, Option, Some, None, IsTrue, ◌↔◌, refl}
use Rattle.std.proofs.Common.{inl, inr, sym, ◌∙◌, ap, subst, arith}
use Rattle.std.proofs.Math.Nat.{le-max_left, le-max_right, max-eq_left, max-eq_right}
use Rattle.std.proofs.lemmas.Bool.{cases_Bool, cases_order, false≢true, true≢false, cond-true, cond-false, eqb-true, eq-eqb}
use Rattle.std.specs.declared.cmp.Ordering.TheVariants.{Less}
use Rattle.disk_model.proofs.MomentLemmas.{if_told-all, if_told-map, if_told-both}
use Rattle.disk_model.proofs.NameOrderLemmas.{order_cases, past_other}
use Rattle.disk_model.specs.Disk.{DiskState, FileState, History, IfTold, IsNext, IsThere, reading}
use Rattle.disk_model.specs.Name.{IsNameInRange}
use Rattle.disk_model.specs.contracts.name.FileNameOrd.TheImpl.{ghosts}
use Rattle.disk_model.specs.declared.name.FileName.{FileName}
use Rattle.disk_model.specs.declared.name.FileName.TheVariants as file
use Rattle.mdbox_base.specs.Words.{IsNumber}
use Rattle.model_rebuild.specs.RebuildPlan.{IsBoxUsed, IsMapUsed, IsFreeGeneration, IsGreatest, IsInstanceNumber}
use Rattle.model_store.specs.Settled.{files_of}
use Rattle.rebuild_files.specs.Listing.{IsNextLog, is_box_of, instance_in_name}

-- ---- a file that is there

pub reads_some : (f : FileState) → IsThere f → reading f ≢ None
reads_some f there e = let k : Some f.octets ≡ None = sym (cond-true f.is_there (Some f.octets) None there) ∙ e in cc

pub there_of : (f : FileState) → reading f ≢ None → IsThere f
there_of f some = elim (cases_Bool f.is_there) [
  | inl there ↦ there
  | inr gone ↦ absurd (some (cond-false f.is_there (Some f.octets) None gone))
]

-- ---- generations

-- all generations before this one are used
pub AreUsedBelow : (ℕ → Type 0) → ℕ → Type 0
AreUsedBelow IsUsed generation = (m : ℕ) → IsNumber m → m < generation → IsUsed m

pub none_used_below : (IsUsed : ℕ → Type 0) → AreUsedBelow IsUsed 1
unfolding AreUsedBelow
none_used_below IsUsed = λ m number less. absurd (let low = number.low in omega (arith, low, less))

pub used_more : (IsUsed : ℕ → Type 0) (g : ℕ) → AreUsedBelow IsUsed g → IsUsed g → AreUsedBelow IsUsed (g + 1)
unfolding AreUsedBelow
used_more IsUsed g below is = λ m number less. elim (cases_order m g) [
  | inl same ↦ subst IsUsed (sym same) is
  | inr (inl l) ↦ below m number l
  | inr (inr more) ↦ absurd (omega (arith, more, less))
]

pub free_here : (IsUsed : ℕ → Type 0) (g : ℕ) → IsNumber g → AreUsedBelow IsUsed g → (IsUsed g → ⊥) → IsFreeGeneration IsUsed g
unfolding AreUsedBelow
free_here IsUsed g number below free = inl (
  number,
  free,
  λ m is unused. elim (cases_order g m) [
    | inl same ↦ omega (arith, same)
    | inr (inl l) ↦ omega (arith, l)
    | inr (inr more) ↦ absurd (unused (below m is more))
  ],
)

pub none_free : (IsUsed : ℕ → Type 0) (g : ℕ) → 4294967295 ≤ g → AreUsedBelow IsUsed g → IsFreeGeneration IsUsed 1
unfolding AreUsedBelow
none_free IsUsed g end below = inr (λ m number. below m number (let high = number.high in omega (arith, high, end)), refl)

pub map_unused : (g : ℕ) (disk : DiskState) → (IsTrue false ↔ IsThere (disk (file.Map g))) → IsMapUsed (files_of disk) g → ⊥
map_unused g disk told used = false≢true (told.1 (there_of (disk (file.Map g)) used))

pub map_used : (g : ℕ) (disk : DiskState) → (IsTrue true ↔ IsThere (disk (file.Map g))) → IsMapUsed (files_of disk) g
map_used g disk told = reads_some (disk (file.Map g)) (told.0 refl)

pub box_unused : (g : ℕ) (disk : DiskState) → (IsTrue false ↔ IsBoxUsed (files_of disk) g) → IsBoxUsed (files_of disk) g → ⊥
box_unused g disk told used = false≢true (told.1 used)

pub box_used : (g : ℕ) (disk : DiskState) → (IsTrue true ↔ IsBoxUsed (files_of disk) g) → IsBoxUsed (files_of disk) g
box_used g disk told = told.0 refl

-- ---- logs of mailboxes

same_number : (a b : ℕ) → (a == b) ≡ true → a ≡ b
same_number a b e = eqb-true a b e

-- mailbox logs of this generation that are there stand past this name
pub BoxesArePast : ℕ → FileName → DiskState → Type 0
BoxesArePast generation last disk = (k : ℕ) → IsThere (disk (file.Box k generation)) → ghosts.cmp last (file.Box k generation) ≡ Less

pub boxes_begin : (generation : ℕ) (h : Option History) → IfTold h (BoxesArePast generation (file.Map 4294967295))
unfolding BoxesArePast
boxes_begin generation h = if_told-all (BoxesArePast generation (file.Map 4294967295)) h (λ disk k there. refl)

box_named : (generation : ℕ) (name : FileName) (disk : DiskState) → is_box_of generation name ≡ true → IsThere (disk name) → IsBoxUsed (files_of disk) generation
box_named generation file.Root disk e there = absurd (false≢true e)
box_named generation (file.Map g) disk e there = absurd (false≢true e)
box_named generation (file.Box k g) disk e there =
    (k, reads_some (disk (file.Box k generation)) (subst (λ (n : ℕ). IsThere (disk (file.Box k n))) (same_number g generation e) there))
box_named generation (file.Mail n) disk e there = absurd (false≢true e)
box_named generation (file.Inst hash id) disk e there = absurd (false≢true e)

pub box_found : (generation : ℕ) (name last : FileName) (h : Option History) → is_box_of generation name ≡ true → IfTold h (IsNextLog ghosts.cmp last (Some name)) → IfTold h (λ now. IsTrue true ↔ IsBoxUsed (files_of now) generation)
box_found generation name last h e next = if_told-map (IsNextLog ghosts.cmp last (Some name)) (λ now. IsTrue true ↔ IsBoxUsed (files_of now) generation) h (λ disk n. (λ t. box_named generation name disk e n.0, λ used. refl)) next

itself : (generation : ℕ) → (generation == generation) ≡ true
itself generation = eq-eqb generation generation refl

boxes_step : (generation : ℕ) (name last : FileName) (disk : DiskState) → is_box_of generation name ≡ false → BoxesArePast generation last disk → IsNextLog ghosts.cmp last (Some name) disk → BoxesArePast generation name disk
unfolding BoxesArePast
boxes_step generation name last disk e past next = λ k there.
    past_other (file.Box k generation) name
    (λ same. true≢false (sym (itself generation) ∙ subst (λ (n : FileName). is_box_of generation n ≡ false) (sym same) e))
    (λ less. next.1 (file.Box k generation) there (past k there) less)

pub boxes_go_on : (generation : ℕ) (name last : FileName) (h : Option History) → is_box_of generation name ≡ false → IfTold h (BoxesArePast generation last) → IfTold h (IsNextLog ghosts.cmp last (Some name)) → IfTold h (BoxesArePast generation name)
boxes_go_on generation name last h e past next = if_told-both (BoxesArePast generation last) (IsNextLog ghosts.cmp last (Some name)) (BoxesArePast generation name) h (λ disk p n. boxes_step generation name last disk e p n) past next

no_box : (generation : ℕ) (last : FileName) (disk : DiskState) → BoxesArePast generation last disk → IsNextLog ghosts.cmp last None disk → IsTrue false ↔ IsBoxUsed (files_of disk) generation
unfolding BoxesArePast
no_box generation last disk past none = (
  λ t. absurd (false≢true t),
  λ used. let there = there_of (disk (file.Box used.0 generation)) used.1 in absurd (none (file.Box used.0 generation) refl there (past used.0 there)),
)

pub boxes_end : (generation : ℕ) (last : FileName) (h : Option History) → IfTold h (BoxesArePast generation last) → IfTold h (IsNextLog ghosts.cmp last None) → IfTold h (λ now. IsTrue false ↔ IsBoxUsed (files_of now) generation)
boxes_end generation last h past none = if_told-both (BoxesArePast generation last) (IsNextLog ghosts.cmp last None) (λ now. IsTrue false ↔ IsBoxUsed (files_of now) generation) h (λ disk p n. no_box generation last disk p n) past none

-- ---- instances

-- up to this name this is the greatest running number of an instance
pub record IsMostUpTo (store : List ℕ) (last : FileName) (most : ℕ) (disk : DiskState) : Type 0 where
  pub least : (name : FileName) → IsThere (disk name) → (ghosts.cmp last name ≡ Less) ⊎ (instance_in_name store name ≤ most)
  pub reached : (most ≡ 0) ⊎ IsInstanceNumber (files_of disk) store most

past_mail : (store : List ℕ) (name : FileName) → (ghosts.cmp (file.Mail 4294967295) name ≡ Less) ⊎ (instance_in_name store name ≤ 0)
past_mail store file.Root = inr (omega arith)
past_mail store (file.Map g) = inr (omega arith)
past_mail store (file.Box k g) = inr (omega arith)
past_mail store (file.Mail n) = inr (omega arith)
past_mail store (file.Inst hash id) = inl refl

pub most_begins : (store : List ℕ) (h : Option History) → IfTold h (IsMostUpTo store (file.Mail 4294967295) 0)
most_begins store h = if_told-all (IsMostUpTo store (file.Mail 4294967295) 0) h (λ disk. record { least = λ name there. past_mail store name; reached = inl refl })

number_reached : (store : List ℕ) (name : FileName) (disk : DiskState) → IsNameInRange name → IsThere (disk name) → (instance_in_name store name ≡ 0) ⊎ IsInstanceNumber (files_of disk) store (instance_in_name store name)
number_reached store file.Root disk range there = inl refl
number_reached store (file.Map g) disk range there = inl refl
number_reached store (file.Box k g) disk range there = inl refl
number_reached store (file.Mail n) disk range there = inl refl
number_reached store (file.Inst hash id) disk range there = inr (hash, id, range, reads_some (disk (file.Inst hash id)) there, refl)

max_reached : (P : ℕ → Type 0) (a b : ℕ) → (a ≡ 0) ⊎ P a → (b ≡ 0) ⊎ P b → (max a b ≡ 0) ⊎ P (max a b)
max_reached P a b p q = elim (cases_order a b) [
  | inl same ↦ subst (λ (n : ℕ). (n ≡ 0) ⊎ P n) (sym (max-eq_right {n = a} {m = b} (omega (arith, same)))) q
  | inr (inl less) ↦ subst (λ (n : ℕ). (n ≡ 0) ⊎ P n) (sym (max-eq_right {n = a} {m = b} (omega (arith, less)))) q
  | inr (inr more) ↦ subst (λ (n : ℕ). (n ≡ 0) ⊎ P n) (sym (max-eq_left {n = a} {m = b} (omega (arith, more)))) p
]

most_step : (store : List ℕ) (last name : FileName) (most : ℕ) (disk : DiskState) → IsMostUpTo store last most disk → IsNameInRange name → IsNext ghosts.cmp (Some last) (Some name) disk → IsMostUpTo store name (max most (instance_in_name store name)) disk
most_step store last name most disk w range next = record {
  least = λ n there. elim (w.least n there) [
    | inl past ↦ elim (order_of n past there) [ inl later ↦ inl later | inr le ↦ inr (let right = le-max_right most (instance_in_name store name) in omega (arith, le, right)) ]
    | inr le ↦ inr (let left = le-max_left most (instance_in_name store name) in omega (arith, le, left))
  ];
  reached = max_reached (IsInstanceNumber (files_of disk) store) most (instance_in_name store name) w.reached (number_reached store name disk range next.0);
}
  where
    order_of : (n : FileName) → ghosts.cmp last n ≡ Less → IsThere (disk n) → (ghosts.cmp name n ≡ Less) ⊎ (instance_in_name store n ≤ instance_in_name store name)
    order_of n past there = elim (order_cases n name) [
      | inl less ↦ absurd (next.1 n there past less)
      | inr (inl later) ↦ inl later
      | inr (inr same) ↦ inr (let e : instance_in_name store n ≡ instance_in_name store name = ap (instance_in_name store) same in omega (arith, e))
    ]

pub most_goes_on : (store : List ℕ) (last name : FileName) (most : ℕ) (h : Option History) → IfTold h (IsMostUpTo store last most) → IsNameInRange name → IfTold h (IsNext ghosts.cmp (Some last) (Some name)) → IfTold h (IsMostUpTo store name (max most (instance_in_name store name)))
most_goes_on store last name most h w range next = if_told-both (IsMostUpTo store last most) (IsNext ghosts.cmp (Some last) (Some name)) (IsMostUpTo store name (max most (instance_in_name store name))) h (λ disk p n. most_step store last name most disk p range n) w next

most_of : (store : List ℕ) (last : FileName) (most : ℕ) (disk : DiskState) → IsMostUpTo store last most disk → IsNext ghosts.cmp (Some last) None disk → IsGreatest (IsInstanceNumber (files_of disk) store) most
most_of store last most disk w none = record {
  most = λ m has.
      let there = there_of (disk (file.Inst has.0 has.1)) has.3 in
      let e = has.4 in
      elim (w.least (file.Inst has.0 has.1) there) [
        | inl past ↦ absurd (none (file.Inst has.0 has.1) there past)
        | inr le ↦ omega (arith, le, e)
      ];
  reached = w.reached;
}

pub most_ends : (store : List ℕ) (last : FileName) (most : ℕ) (h : Option History) → IfTold h (IsMostUpTo store last most) → IfTold h (IsNext ghosts.cmp (Some last) None) → IfTold h (λ now. IsGreatest (IsInstanceNumber (files_of now) store) most)
most_ends store last most h w none = if_told-both (IsMostUpTo store last most) (IsNext ghosts.cmp (Some last) None) (λ now. IsGreatest (IsInstanceNumber (files_of now) store) most) h (λ disk p n. most_of store last most disk p n) w none

-- A walk over the names of a disk, each of which is looked at.
use Rattle.std.proofs.Common.{inl, inr, ◌∷◌, ◌≡◌, ◌≢◌, Option, Some, None, sym, ◌∙◌, ap, subst}
use Rattle.std.specs.declared.cmp.Ordering.TheVariants.{Less}
use Rattle.disk_model.specs.Disk.{DiskState, History, FileState, IsThere, IfTold, IsPast, IsNext, SameButFor, Unchanged}
use Rattle.disk_model.specs.contracts.name.FileNameOrd.TheImpl.{ghosts}
use Rattle.disk_model.specs.contracts.name.FileNameOrd.TheImpl.Laws.{total-law}
use Rattle.disk_model.specs.declared.name.FileName.{FileName}
use Rattle.disk_model.proofs.MomentLemmas.{if_told-both, if_told-unchanged}
use Rattle.disk_model.proofs.NameOrderLemmas.{order_cases, not_itself}

-- Of each file that is there and that the walk has passed, this holds.
abbrev pub Passed : (FileName → FileState → Type 0) → Option FileName → DiskState → Type 0
Passed P last disk = (name : FileName) → IsThere (disk name) → (IsPast ghosts.cmp last name → ⊥) → P name (disk name)

pub passed_none : (P : FileName → FileState → Type 0) (disk : DiskState) → Passed P None disk
passed_none P disk = λ name there behind. absurd (behind tt)

-- the walk is at its end
pub passed_all : (P : FileName → FileState → Type 0) (last : Option FileName) (disk : DiskState) → IsNext ghosts.cmp last None disk → Passed P last disk → (name : FileName) → IsThere (disk name) → P name (disk name)
passed_all P last disk end passed = λ name there. passed name there (λ past. end name there past)

-- behind the next name, or that name, or passed before it
behind_next : (last : Option FileName) (next name : FileName) → (ghosts.cmp name next ≢ Less) → (ghosts.cmp next name ≡ Less → ⊥) → next ≡ name
behind_next last next name before behind = elim (order_cases next name) [
  | inl less ↦ absurd (behind less)
  | inr (inl less) ↦ absurd (before less)
  | inr (inr same) ↦ same
]

pub past_or : (last : Option FileName) (name : FileName) (X : Type 0) → (IsPast ghosts.cmp last name → X) → ((IsPast ghosts.cmp last name → ⊥) → X) → X
past_or None name X yes_past not_past = yes_past tt
past_or (Some last) name X yes_past not_past = elim (order_cases last name) [
  | inl less ↦ yes_past less
  | inr (inl less) ↦ not_past (λ e. not_both last name less e)
  | inr (inr same) ↦ not_past (λ e. not_itself name (subst (λ (n : FileName). ghosts.cmp n name ≡ Less) same e))
]
  where
    not_both : (a b : FileName) → ghosts.cmp b a ≡ Less → ghosts.cmp a b ≡ Less → ⊥
    not_both a b first second = not_itself a (total-law.trans a b a second first)

-- the next file has been looked at, and each other one is as it was
pub passed_more : (P : FileName → FileState → Type 0) (last : Option FileName) (next : FileName) (old new : DiskState) → IsNext ghosts.cmp last (Some next) old → Passed P last old
    → ((other : FileName) → other ≢ next → new other ≡ old other) → (IsThere (new next) → P next (new next)) → Passed P (Some next) new
passed_more P last next old new is passed same looked = λ name there behind.
    past_or_same name (λ e. subst (λ (n : FileName). IsThere (new n) → P n (new n)) e looked there)
    (λ apart.
    let f : new name ≡ old name = same name apart in
    let was : IsThere (old name) = subst IsThere f there in
    subst (P name) (sym f) (past_or last name (P name (old name))
    (λ past. absurd (apart (sym (behind_next last next name (is.1 name was past) behind))))
    (λ not_past. passed name was not_past)))
  where
    past_or_same : (name : FileName) → {X : Type 0} → (next ≡ name → X) → (name ≢ next → X) → X
    past_or_same name here apart = elim (order_cases next name) [
      | inl less ↦ apart (λ e. not_itself name (subst (λ (n : FileName). ghosts.cmp n name ≡ Less) (sym e) less))
      | inr (inl less) ↦ apart (λ e. not_itself name (subst (λ (n : FileName). ghosts.cmp name n ≡ Less) (sym e) less))
      | inr (inr same) ↦ here same
    ]

-- the same across the calls: the name was asked for, and then its file was looked at
pub walk_more : (P : FileName → FileState → Type 0) (last : Option FileName) (next : FileName) (old mid new : Option History) → Unchanged old mid → IfTold old (IsNext ghosts.cmp last (Some next)) → IfTold old (Passed P last)
    → SameButFor next mid new → IfTold new (λ disk. IsThere (disk next) → P next (disk next)) → IfTold new (Passed P (Some next))
walk_more P last next None mid None unchanged is passed same looked = tt
walk_more P last next None None (Some new) unchanged is passed same looked = absurd (let e : Some new ≡ None = same in cc)
walk_more P last next None (Some mid) (Some new) (inl unchanged) is passed same looked = absurd (let e : Some mid ≡ None = unchanged in cc)
walk_more P last next None (Some mid) (Some new) (inr unchanged) is passed same looked = absurd (let e : Some mid ≡ None = unchanged.0 in cc)
walk_more P last next (Some old) None None unchanged is passed same looked = tt
walk_more P last next (Some old) None (Some new) unchanged is passed same looked = absurd (let e : Some new ≡ None = same in cc)
walk_more P last next (Some old) (Some mid) None unchanged is passed same looked = tt
walk_more P last next (Some old) (Some mid) (Some new) unchanged is passed same looked =
    let e : mid.now ≡ old.now = same_state unchanged in
    passed_more P last next old.now new.now is passed (λ other apart. same other apart ∙ ap (λ (d : DiskState). d other) e) looked
  where
    same_some : (a b : History) → Some a ≡ Some b → a ≡ b
    same_some a b e = cc

    same_state : Unchanged (Some old) (Some mid) → mid.now ≡ old.now
    same_state (inl is) = ap (λ (h : History). h.now) (same_some mid (record { now = old.now; before = old.now ∷ old.before }) is)
    same_state (inr is) = ap (λ (h : History). h.now) (same_some mid old is.0)

-- the walk is at its end
pub walk_ends : (P : FileName → FileState → Type 0) (last : Option FileName) (old new : Option History) → Unchanged old new → IfTold old (IsNext ghosts.cmp last None) → IfTold old (Passed P last)
    → IfTold new (λ disk. (name : FileName) → IsThere (disk name) → P name (disk name))
walk_ends P last old new unchanged end passed =
    if_told-unchanged _ old new unchanged (if_told-both _ _ _ old (λ disk e p. passed_all P last disk e p) end passed)

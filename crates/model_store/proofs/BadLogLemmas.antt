-- A log is damaged at one place at most, and not where it has good entries.
use Rattle.std.specs.Prelude.{◌≡◌, ◌+◌, ℕ, List, [], ◌∷◌, ◌++◌, map, Option, Some, None, refl}
use Rattle.std.specs.List.{AllByRecursion}
use Rattle.std.proofs.Common.{inl, inr, sym, ◌∙◌, ap, subst}
use Rattle.disk_model.specs.Disk.{Files}
use Rattle.disk_model.specs.declared.name.FileName.{FileName}
use Rattle.model_logs.specs.declared.log_head.LogHead.{LogHead}
use Rattle.model_logs.specs.Entries.{root_text, map_text, box_text, RootInRange, MapInRange, BoxInRange, HasOneText}
use Rattle.model_logs.proofs.EntryLemmas.{root_one, box_one}
use Rattle.model_logs.proofs.MapEntryLemmas.{map_one}
use Rattle.model_meaning.proofs.FitLemmas.{each_of, each_more, box_fit_of, box_fit_more, map_fit_of, map_fit_more}
use Rattle.model_logs.specs.LogFile.{IsLog, log_end}
use Rattle.model_logs.proofs.LogFileLemmas.{one_log, one_damage, not_both}
use Rattle.model_store.specs.Stands.{HasLog}
use Rattle.model_store.specs.Opening.{AreRootEntries, AreMapEntries, AreBoxEntries, IsEntryDamaged, IsBadLog}

-- ---- two cuts of one list

-- Two cuts of one list, each behind some elements and before one more: one cut, or one of them lies within the other's front.
pub data Cuts {X : Type 0} (a b : List X) (x y : X) : Type 0 where
  Same : (front : a ≡ b) → (at : x ≡ y) → Cuts a b x y
  Later : (between : List X) → (is : b ≡ a ++ x ∷ between) → Cuts a b x y
  Earlier : (between : List X) → (is : a ≡ b ++ y ∷ between) → Cuts a b x y

cuts_behind : {X : Type 0} → (e f : X) (a b : List X) (x y : X) → e ≡ f → Cuts a b x y → Cuts (e ∷ a) (f ∷ b) x y
cuts_behind e f a b x y h (Same p q) = Same (let k : e ∷ a ≡ f ∷ b = cc (h, p) in k) q
cuts_behind e f a b x y h (Later zs p) = Later zs (let k : f ∷ b ≡ e ∷ (a ++ x ∷ zs) = cc (h, p) in k)
cuts_behind e f a b x y h (Earlier zs p) = Earlier zs (let k : e ∷ a ≡ f ∷ (b ++ y ∷ zs) = cc (h, p) in k)

pub two_cuts : {X : Type 0} → (a b : List X) (x y : X) (u v : List X) → a ++ x ∷ u ≡ b ++ y ∷ v → Cuts a b x y
two_cuts [] [] x y u v e = Same refl cc
two_cuts [] (f ∷ b) x y u v e = Later b (let h : x ≡ f = cc in let k : f ∷ b ≡ x ∷ b = cc h in k)
two_cuts (d ∷ a) [] x y u v e = Earlier a (let h : d ≡ y = cc in let k : d ∷ a ≡ y ∷ a = cc h in k)
two_cuts (d ∷ a) (f ∷ b) x y u v e = cuts_behind d f a b x y (cc) (two_cuts a b x y u v (let t : a ++ x ∷ u ≡ b ++ y ∷ v = cc in t))

-- ---- good entries

-- Entries whose texts are spelled in one way, and which are good only if each front of them is.
pub record IsGrammar {E : Type 0} (text : E → List ℕ) (InRange : E → Type 0) (AreGood : List E → Type 0) : Type 0 where
  pub one : HasOneText text InRange
  pub range : (entries : List E) → AreGood entries → AllByRecursion InRange entries
  pub front : (before behind : List E) (entry : E) → AreGood (before ++ entry ∷ behind) → AreGood (before ++ entry ∷ [])

front_in_range : {E : Type 0} → (P : E → Type 0) (before behind : List E) (entry : E) → AllByRecursion P (before ++ entry ∷ behind) → AllByRecursion P (before ++ entry ∷ [])
front_in_range P before behind entry h = let r = each_of P before behind entry h in each_more P before entry r.0 r.1

pub root_grammar : IsGrammar root_text RootInRange AreRootEntries
root_grammar = record { one = root_one; range = λ entries good. good; front = front_in_range RootInRange }

pub map_grammar : (store : List ℕ) → IsGrammar map_text MapInRange (AreMapEntries store)
map_grammar store = record {
  one = map_one;
  range = λ entries good. good.0;
  front = λ before behind entry good. (front_in_range MapInRange before behind entry good.0, (let r = map_fit_of store [] before behind entry good.1 in map_fit_more store [] before entry r.0 r.1));
}

pub box_grammar : IsGrammar box_text BoxInRange AreBoxEntries
box_grammar = record {
  one = box_one 2;
  range = λ entries good. good.0;
  front = λ before behind entry good. (front_in_range BoxInRange before behind entry good.0, (let r = box_fit_of [] before behind entry good.1 in box_fit_more [] before entry r.0 r.1));
}

-- an entry whose text stands behind the texts of others stands behind them
record StandsAt {E : Type 0} (text : E → List ℕ) (before entries : List E) (bad : List ℕ) : Type 0 where
  entry : E
  rest : List E
  split : entries ≡ before ++ entry ∷ rest
  is_text : bad ≡ text entry

stands_behind : {E : Type 0} → (text : E → List ℕ) (e f : E) (before entries : List E) (bad : List ℕ) → e ≡ f → StandsAt text before entries bad → StandsAt text (f ∷ before) (e ∷ entries) bad
stands_behind text e f before entries bad h s = record { entry = s.entry; rest = s.rest; split = (let p = s.split in let k : e ∷ entries ≡ f ∷ (before ++ s.entry ∷ s.rest) = cc (h, p) in k); is_text = s.is_text }

stands_at : {E : Type 0} → (text : E → List ℕ) (InRange : E → Type 0) → HasOneText text InRange → (before entries : List E) (bad : List ℕ) (behind : List (List ℕ))
    → AllByRecursion InRange before → AllByRecursion InRange entries → map text entries ≡ map text before ++ bad ∷ behind → StandsAt text before entries bad
stands_at text InRange one [] [] bad behind p q e = absurd (cc e)
stands_at text InRange one [] (x ∷ xs) bad behind p q e = record { entry = x; rest = xs; split = refl; is_text = (let h : text x ≡ bad = cc in sym h) }
stands_at text InRange one (b ∷ bs) [] bad behind p q e = absurd (cc e)
stands_at text InRange one (b ∷ bs) (x ∷ xs) bad behind p q e =
    let h : text x ≡ text b = cc in
    let t : map text xs ≡ map text bs ++ bad ∷ behind = cc in
    stands_behind text x b bs xs bad (one x b q.0 p.0 h) (stands_at text InRange one bs xs bad behind p.1 q.1 t)

-- a text that is no good entry doesn't stand among good entries
no_good : {E : Type 0} → (text : E → List ℕ) (InRange : E → Type 0) (AreGood : List E → Type 0) → IsGrammar text InRange AreGood → (octets : List ℕ) (head : LogHead) (place : ℕ) (entries : List E) (behind : List (List ℕ))
    → (d : IsEntryDamaged text AreGood octets head place) → AreGood entries → map text entries ≡ map text d.before ++ d.bad ∷ behind → ⊥
no_good text InRange AreGood g octets head place entries behind d good e =
    let s = stands_at text InRange g.one d.before entries d.bad behind (g.range d.before d.good) (g.range entries good) e in
    d.no_entry s.entry s.is_text (g.front d.before s.rest s.entry (subst AreGood s.split good))

-- ---- a damaged log

entry_damage_once : {E : Type 0} → (text : E → List ℕ) (InRange : E → Type 0) (AreGood : List E → Type 0) → IsGrammar text InRange AreGood → (octets : List ℕ) (head : LogHead) (p q : ℕ)
    → IsEntryDamaged text AreGood octets head p → IsEntryDamaged text AreGood octets head q → p ≡ q
entry_damage_once text InRange AreGood g octets head p q a b =
    let e : map text a.before ++ a.bad ∷ a.behind ≡ map text b.before ++ b.bad ∷ b.behind = (one_log octets head head _ _ a.whole b.whole).1 in
    by_cuts (two_cuts (map text a.before) (map text b.before) a.bad b.bad a.behind b.behind e)
  where
    by_cuts : Cuts (map text a.before) (map text b.before) a.bad b.bad → p ≡ q
    by_cuts (Same front at) = a.is ∙ ap (λ (ts : List (List ℕ)). log_end ts + 1) front ∙ sym b.is
    by_cuts (Later between is) = absurd (no_good text InRange AreGood g octets head p b.before between a b.good is)
    by_cuts (Earlier between is) = absurd (no_good text InRange AreGood g octets head q a.before between b a.good is)

-- A log is bad at one place at most.
pub one_bad_log : {E : Type 0} → (text : E → List ℕ) (InRange : E → Type 0) (AreGood : List E → Type 0) → IsGrammar text InRange AreGood → (head : LogHead) (there : Option (List ℕ)) (p q : ℕ)
    → IsBadLog text AreGood head there p → IsBadLog text AreGood head there q → p ≡ q
one_bad_log text InRange AreGood g head None p q a b = a ∙ sym b
one_bad_log text InRange AreGood g head (Some octets) p q (inl a) (inl b) = one_damage (Some head) octets p q a b
one_bad_log text InRange AreGood g head (Some octets) p q (inl a) (inr b) = absurd (not_both (Some head) octets head _ p b.whole refl a)
one_bad_log text InRange AreGood g head (Some octets) p q (inr a) (inl b) = absurd (not_both (Some head) octets head _ q a.whole refl b)
one_bad_log text InRange AreGood g head (Some octets) p q (inr a) (inr b) = entry_damage_once text InRange AreGood g octets head p q a b

pub good_octets : {E : Type 0} → (text : E → List ℕ) (InRange : E → Type 0) (AreGood : List E → Type 0) → IsGrammar text InRange AreGood → (head : LogHead) (octets : List ℕ) (p : ℕ) (entries : List E)
    → IsLog octets head (map text entries) → AreGood entries → IsBadLog text AreGood head (Some octets) p → ⊥
good_octets text InRange AreGood g head octets p entries log good (inl d) = not_both (Some head) octets head _ p log refl d
good_octets text InRange AreGood g head octets p entries log good (inr d) =
    no_good text InRange AreGood g octets head p entries d.behind d good (one_log octets head head _ _ log d.whole).1

-- A log with good entries isn't bad.
pub good_log : {E : Type 0} → (text : E → List ℕ) (InRange : E → Type 0) (AreGood : List E → Type 0) → IsGrammar text InRange AreGood → (files : Files) (name : FileName) (head : LogHead) (p : ℕ) (entries : List E)
    → HasLog files name head (map text entries) → AreGood entries → IsBadLog text AreGood head (files name) p → ⊥
good_log text InRange AreGood g files name head p entries log good bad =
    good_octets text InRange AreGood g head log.octets p entries log.whole good (subst (λ (o : Option (List ℕ)). IsBadLog text AreGood head o p) log.there bad)

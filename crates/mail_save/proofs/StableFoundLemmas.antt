-- The instances that a delivery has found stay found beside every event of every other task.
use Rattle.mail_save.proofs.Common.{◌≡◌, ◌≤◌, ℕ, true, cond, List, [], ◌∷◌, length, All, Option, Some, refl, sym, ◌∙◌, ap, subst, arith, bytes_eq, All-cons, All-head, All-nil, All-tail, Detached, DiskState, History, Between, reading, between-both, between-map, between-on, InstRow, InstId, AreHeld}
use Rattle.mail_save.proofs.Common.{AreOfParts, AttachingValue, instance_file, holds_of, IsKnownRow, StoreValue, Claims, Held, one_if, Beside}
use Rattle.std.proofs.Common.{get_or}
use Rattle.std.proofs.lemmas.List.Sums.{get_or-le-sum_by}
use Rattle.mdbox_base.specs.declared.ids.StoreId.{StoreId}
use Rattle.model_octets.proofs.SearchLemmas.{text_yes}
use Rattle.save_instances.specs.Attaching.{IsAttaching}
use Rattle.sis_store.specs.Comparing.{IsUnlikeCompared}
use Rattle.store_core.specs.StoreInstances.{IsFirstKnown, IsFirstWith}
use Rattle.task_claims.specs.Leaving.{LeavesInstance}
use Rattle.task_claims.proofs.LeftLemmas.{held_left, instance_left}
use Rattle.mail_save.specs.Left.{HoldsInstances}

-- each row is held at least once for itself
each_held : (rows : List InstRow) → All (λ row. 1 ≤ holds_of rows row.id) rows
each_held rows = λ i d lt.
    let row = get_or rows i d in
    let one : one_if (bytes_eq row.id.0 row.id.0) ≡ one_if true = ap one_if (text_yes row.id.0 row.id.0 refl) in
    let le : one_if (bytes_eq row.id.0 row.id.0) ≤ holds_of rows row.id = get_or-le-sum_by (λ (r : InstRow). cond (bytes_eq r.id.0 row.id.0) 1 0) rows i d lt in
    more (one_if (bytes_eq row.id.0 row.id.0)) (holds_of rows row.id) one le
  where
    more : (a b : ℕ) → a ≡ one_if true → a ≤ b → 1 ≤ b
    more a b e l = omega (arith, e, l)

-- what a task claims that holds these, once for each row
abbrev pub HoldsThese : Claims → List InstRow → Type 0
HoldsThese theirs rows = (id : InstId) → theirs (Held id) ≡ holds_of rows id

abbrev pub AreClaimed : Claims → List InstRow → Type 0
AreClaimed theirs rows = All (λ row. 1 ≤ theirs (Held row.id)) rows

pub all_claimed : (theirs : Claims) (rows : List InstRow) → HoldsThese theirs rows → AreClaimed theirs rows
all_claimed theirs rows own = λ i d lt. let e = own (get_or rows i d).id in let h = each_held rows i d lt in omega (arith, e, h)

pub still_held : {D : Type 0} → (theirs : Claims) (rows : List InstRow) (old new : StoreValue D) (before after : Option History) → Beside theirs old new before after → HoldsThese theirs rows → AreHeld rows new.instances.known
still_held theirs rows old new before after b own = λ id. let e = own id in let h = held_left theirs old new before after id b in omega (arith, e, h)

-- ---- each is of its attachment

first_on : {D : Type 0} → (octets : List ℕ) (row : InstRow) (old new : StoreValue D) (before after : Option History) → LeavesInstance row old new before after → IsFirstWith octets row old.instances.known before → IsFirstWith octets row new.instances.known after
first_on octets row old new before after k f = record {
  is_known = k.known;
  reads = between-on (λ a b. reading (b (instance_file row)) ≡ reading (a (instance_file row))) (λ now. reading (now (instance_file row)) ≡ Some octets) (λ now. reading (now (instance_file row)) ≡ Some octets) before after (λ a b same is. same ∙ is) k.reads f.reads;
  first = between-on (λ a b. IsFirstKnown old.instances.known a row → IsFirstKnown new.instances.known b row) (λ now. IsFirstKnown old.instances.known now row) (λ now. IsFirstKnown new.instances.known now row) before after (λ a b go is. go is) k.first f.first;
}

pub parts_left_so : {D : Type 0} → (theirs : Claims) (rows : List InstRow) (parts : List Detached) (old new : StoreValue D) (before after : Option History) → Beside theirs old new before after → AreClaimed theirs rows → AreOfParts rows parts old.instances.known before → AreOfParts rows parts new.instances.known after
parts_left_so theirs [] parts old new before after b claimed are = tt
parts_left_so theirs (row ∷ rows) [] old new before after b claimed are = absurd are
parts_left_so theirs (row ∷ rows) (part ∷ parts) old new before after b claimed are = (
  record {
    hash = are.0.hash;
    size = are.0.size;
    first = first_on part.octets row old new before after (instance_left theirs old new before after row b (All-head (λ (r : InstRow). 1 ≤ theirs (Held r.id)) row rows claimed) are.0.first.is_known) are.0.first;
  },
  parts_left_so theirs rows parts old new before after b (All-tail (λ (r : InstRow). 1 ≤ theirs (Held r.id)) row rows claimed) are.1,
)

pub attaching_left : {D : Type 0} → (theirs : Claims) (value : AttachingValue) (old new : StoreValue D) (before after : Option History) → Beside theirs old new before after → HoldsThese theirs value.found → IsAttaching value old before → IsAttaching value new after
attaching_left theirs value old new before after b own is = record {
  found = parts_left_so theirs value.found value.parts old new before after b (all_claimed theirs value.found own) is.found;
  held = still_held theirs value.found old new before after b own;
  drawn = let a = is.drawn in let d = b.leaves.numbers.drawn in omega (arith, a, d);
  unlike = λ part next.
      subst (λ (s : StoreId). IsUnlikeCompared s part.hash (length part.octets) part.octets value.after value.drawn new.instances.known after) (sym b.leaves.store)
      (b.leaves.compared part.hash (length part.octets) part.octets value.after value.drawn is.drawn (is.unlike part next));
}

-- ---- a record may name them

known_left : {D : Type 0} → (theirs : Claims) (rows : List InstRow) (old new : StoreValue D) (before after : Option History) → Beside theirs old new before after → AreClaimed theirs rows → All (IsKnownRow old.instances.known) rows → All (IsKnownRow new.instances.known) rows
known_left theirs rows old new before after b claimed known = λ i d lt. (instance_left theirs old new before after (get_or rows i d) b (claimed i d lt) (known i d lt)).known

abbrev Firsts : {D : Type 0} → List InstRow → StoreValue D → StoreValue D → DiskState → DiskState → Type 0
Firsts rows old new a b = All (IsFirstKnown old.instances.known a) rows → All (IsFirstKnown new.instances.known b) rows

first_left : {D : Type 0} → (theirs : Claims) (rows : List InstRow) (old new : StoreValue D) (before after : Option History) → Beside theirs old new before after → AreClaimed theirs rows → All (IsKnownRow old.instances.known) rows → Between (Firsts rows old new) before after
first_left theirs [] old new before after b claimed known = between-map (λ a b. Unit {0}) (Firsts [] old new) before after (λ a b s h. All-nil (IsFirstKnown new.instances.known b)) b.leaves.told
first_left theirs (row ∷ rows) old new before after b claimed known =
    between-both (λ a b. IsFirstKnown old.instances.known a row → IsFirstKnown new.instances.known b row) (Firsts rows old new) (Firsts (row ∷ rows) old new) before after
    (λ a b f g h. All-cons (IsFirstKnown new.instances.known b) row rows (f (All-head (IsFirstKnown old.instances.known a) row rows h)) (g (All-tail (IsFirstKnown old.instances.known a) row rows h)))
    (instance_left theirs old new before after row b (All-head (λ (r : InstRow). 1 ≤ theirs (Held r.id)) row rows claimed) (All-head (IsKnownRow old.instances.known) row rows known)).first
    (first_left theirs rows old new before after b (All-tail (λ (r : InstRow). 1 ≤ theirs (Held r.id)) row rows claimed) (All-tail (IsKnownRow old.instances.known) row rows known))

pub holds_left : {D : Type 0} → (theirs : Claims) (rows : List InstRow) (old new : StoreValue D) (before after : Option History) → Beside theirs old new before after → HoldsThese theirs rows → HoldsInstances rows old before → HoldsInstances rows new after
holds_left theirs rows old new before after b own h =
    let claimed = all_claimed theirs rows own in
    record {
      known = known_left theirs rows old new before after b claimed h.known;
      held = still_held theirs rows old new before after b own;
      first = between-on (Firsts rows old new) (λ now. All (IsFirstKnown old.instances.known now) rows) (λ now. All (IsFirstKnown new.instances.known now) rows) before after (λ a b f is. f is) (first_left theirs rows old new before after b claimed h.known) h.first;
      few = h.few;
    }

-- the files of these instances have the octets that they had
abbrev pub AreRead : List InstRow → DiskState → DiskState → Type 0
AreRead rows a b = All (λ inst. (own : List ℕ) → reading (a (instance_file inst)) ≡ Some own → reading (b (instance_file inst)) ≡ Some own) rows

pub rows_read : {D : Type 0} → (theirs : Claims) (rows : List InstRow) (old new : StoreValue D) (before after : Option History) → Beside theirs old new before after → AreClaimed theirs rows → All (IsKnownRow old.instances.known) rows → Between (AreRead rows) before after
rows_read theirs [] old new before after b claimed known = between-map (λ a b. Unit {0}) (AreRead []) before after (λ a b s. All-nil _) b.leaves.told
rows_read theirs (row ∷ rows) old new before after b claimed known =
    between-both (λ a b. reading (b (instance_file row)) ≡ reading (a (instance_file row))) (AreRead rows) (AreRead (row ∷ rows)) before after
    (λ a b e r. All-cons (λ (inst : InstRow). (own : List ℕ) → reading (a (instance_file inst)) ≡ Some own → reading (b (instance_file inst)) ≡ Some own) row rows (λ own is. e ∙ is) r)
    (instance_left theirs old new before after row b (All-head (λ (r : InstRow). 1 ≤ theirs (Held r.id)) row rows claimed) (All-head (IsKnownRow old.instances.known) row rows known)).reads
    (rows_read theirs rows old new before after b (All-tail (λ (r : InstRow). 1 ≤ theirs (Held r.id)) row rows claimed) (All-tail (IsKnownRow old.instances.known) row rows known))

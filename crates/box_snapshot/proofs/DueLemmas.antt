-- Logs that are due, as a store shows them.
use Rattle.std.proofs.Common.{◌≡◌, ◌<◌, ◌+◌, ◌*◌, ◌==◌, ℕ, Bool, true, false, cond, List, [], ◌∷◌, length, find, Option, Some, None, refl, sym, ◌∙◌, ap, subst, option_map}
use Rattle.std.specs.Prelude.{◌&&◌, nat_le, nat_lt}
use Rattle.std.specs.Option.{option_map_or}
use Rattle.std.proofs.lemmas.Bool.{false≢true, ltb-true}
use Rattle.disk_model.specs.Disk.{History}
use Rattle.disk_model.specs.declared.name.FileName.TheVariants as file
use Rattle.box_snapshot.specs.Due.{is_log_due, is_box_due, is_map_due, needs_of_box}
use Rattle.box_index.specs.State.{BoxState}
use Rattle.model_meaning.specs.MapMeaning.{MapBox, MapMeaning}
use Rattle.model_store.specs.Listing.{meaning_numbered}
use Rattle.store_core.specs.Running.{AreBoxLogs, IsStore}
use Rattle.store_core.specs.Value.{StoreValue, log_count_of, indexes_of}
use Rattle.store_core.specs.declared.store.OpenBox.{OpenBox}

-- the open mailbox with this number has what its log means and the generation of the map
record IsOpen (number : ℕ) (ms : List MapBox) (bs : List OpenBox) (found : Option OpenBox) : Type 0 where
  meaning : meaning_numbered number ms (indexes_of bs) ≡ option_map (λ b. b.index.meaning) found
  generation : option_map (λ box. box.generation) (find (λ box. box.number == number) ms) ≡ option_map (λ b. b.log.head.generation) found

one_more : (number : ℕ) (m : MapBox) (ms : List MapBox) (b : OpenBox) (bs : List OpenBox) (t : Bool) (found : Option OpenBox) → m.number == number ≡ t → b.log.head.generation ≡ m.generation → IsOpen number ms bs found
    → IsOpen number (m ∷ ms) (b ∷ bs) (cond t (Some b) found)
one_more number m ms b bs true found e g o = record { meaning = rw e; generation = rw e (ap Some (sym g)) }
one_more number m ms b bs false found e g o = record { meaning = rw e o.meaning; generation = rw e o.generation }

in_step : (number : ℕ) (store : List ℕ) (ms : List MapBox) (bs : List OpenBox) → AreBoxLogs store ms bs → IsOpen number ms bs (find (λ b. b.number.0 == number) bs)
in_step number store [] [] a = record { meaning = refl; generation = refl }
in_step number store [] (b ∷ bs) a = absurd a
in_step number store (m ∷ ms) [] a = absurd a
in_step number store (m ∷ ms) (b ∷ bs) a =
    one_more number m ms b bs (b.number.0 == number) (find (λ (b : OpenBox). b.number.0 == number) bs) (ap (λ (n : ℕ). n == number) (sym a.0)) (ap (λ h. h.generation) a.2) (in_step number store ms bs a.3)

due_of : (number : ℕ) (ms : List MapBox) (bs : List OpenBox) (found : Option OpenBox) (index : BoxState) (generation : ℕ) → IsOpen number ms bs found → Some index.meaning ≡ meaning_numbered number ms (indexes_of bs)
    → Some generation ≡ option_map (λ box. box.generation) (find (λ box. box.number == number) ms) → is_log_due (option_map_or (λ b. b.log.count) found 0) (length index.meaning.rows + 1) generation ≡ option_map_or is_box_due found false
due_of number ms bs None index generation o e f = absurd (cc (let h : Some index.meaning ≡ None = e ∙ o.meaning in h))
due_of number ms bs (Some b) index generation o e f =
    let h : Some index.meaning ≡ Some b.index.meaning = e ∙ o.meaning in
    let k : Some generation ≡ Some b.log.head.generation = f ∙ o.generation in
    let means : index.meaning ≡ b.index.meaning = cc h in
    let same : generation ≡ b.log.head.generation = cc k in
    rw (means, same)

pub due_there : (number : ℕ) (store : List ℕ) (ms : List MapBox) (bs : List OpenBox) (index : BoxState) (generation : ℕ) (due : Bool) (entries rows : ℕ) → AreBoxLogs store ms bs
    → Some index.meaning ≡ meaning_numbered number ms (indexes_of bs) → Some generation ≡ option_map (λ box. box.generation) (find (λ box. box.number == number) ms) → entries ≡ log_count_of number bs → rows ≡ length index.meaning.rows
    → due ≡ is_log_due entries (rows + 1) generation → due ≡ option_map_or is_box_due (find (λ b. b.number.0 == number) bs) false
due_there number store ms bs index generation due entries rows a e f n r is =
    is ∙ rw (n, r) (due_of number ms bs (find (λ (b : OpenBox). b.number.0 == number) bs) index generation (in_step number store ms bs a) e f)

no_box : (number : ℕ) (ms : List MapBox) (bs : List OpenBox) (found : Option OpenBox) → IsOpen number ms bs found → None ≡ meaning_numbered number ms (indexes_of bs) → false ≡ option_map_or is_box_due found false
no_box number ms bs None o e = refl
no_box number ms bs (Some b) o e = absurd (cc (let h : None ≡ Some b.index.meaning = e ∙ o.meaning in h))

-- none is due where there is no such mailbox
pub none_there : (number : ℕ) (store : List ℕ) (ms : List MapBox) (bs : List OpenBox) → AreBoxLogs store ms bs → None ≡ meaning_numbered number ms (indexes_of bs) → false ≡ option_map_or is_box_due (find (λ b. b.number.0 == number) bs) false
none_there number store ms bs a e = no_box number ms bs (find (λ (b : OpenBox). b.number.0 == number) bs) (in_step number store ms bs a) e

no_generation : (number : ℕ) (ms : List MapBox) (bs : List OpenBox) (found : Option OpenBox) → IsOpen number ms bs found → None ≡ option_map (λ box. box.generation) (find (λ box. box.number == number) ms) → false ≡ option_map_or is_box_due found false
no_generation number ms bs None o e = refl
no_generation number ms bs (Some b) o e = absurd (cc (let h : None ≡ Some b.log.head.generation = e ∙ o.generation in h))

-- nor where the map has no such mailbox
pub none_mapped : (number : ℕ) (store : List ℕ) (ms : List MapBox) (bs : List OpenBox) → AreBoxLogs store ms bs → None ≡ option_map (λ box. box.generation) (find (λ box. box.number == number) ms)
    → false ≡ option_map_or is_box_due (find (λ b. b.number.0 == number) bs) false
none_mapped number store ms bs a e = no_generation number ms bs (find (λ (b : OpenBox). b.number.0 == number) bs) (in_step number store ms bs a) e

-- the map log, whose head has the generation of its name
pub map_due_by : {D : Type 0} (v : StoreValue D) (history : Option History) (due : Bool) (entries boxes rows sealed generation : ℕ) (m : MapMeaning) → IsStore history v → m ≡ v.map → entries ≡ v.map_log.count → boxes ≡ length m.boxes → rows ≡ length m.records
    → sealed ≡ length m.sealed → v.map_log.name ≡ file.Map generation → due ≡ is_log_due entries (boxes + rows + sealed + 1) generation → due ≡ is_map_due v
map_due_by v history due entries boxes rows sealed generation m s w e b r l n is =
    let h : file.Map generation ≡ file.Map s.generation = sym n ∙ s.map_name in
    let same : generation ≡ v.map_log.head.generation = (let k : generation ≡ s.generation = cc h in k) ∙ sym (ap (λ x. x.generation) s.map_head) in
    is ∙ rw (e, b, r, l, w, same)

-- ---- a mailbox whose log is due

-- The mailbox with this number, among those that are open and in the map.
pub record IsOpenBox (number : ℕ) (ms : List MapBox) (bs : List OpenBox) : Type 0 where
  pub open_box : OpenBox
  pub found : find (λ b. b.number.0 == number) bs ≡ Some open_box
  pub box : MapBox
  pub there : find (λ box. box.number == number) ms ≡ Some box
  pub meaning : meaning_numbered number ms (indexes_of bs) ≡ Some open_box.index.meaning
  pub generation : open_box.log.head.generation ≡ box.generation

open_by : (number : ℕ) (ms : List MapBox) (bs : List OpenBox) (b : OpenBox) (listed : Option MapBox) → find (λ b. b.number.0 == number) bs ≡ Some b → find (λ box. box.number == number) ms ≡ listed → IsOpen number ms bs (Some b) → IsOpenBox number ms bs
open_by number ms bs b None f e o = absurd (cc (let h : None ≡ Some b.log.head.generation = sym (ap (option_map (λ (box : MapBox). box.generation)) e) ∙ o.generation in h))
open_by number ms bs b (Some box) f e o =
    let h : Some box.generation ≡ Some b.log.head.generation = sym (ap (option_map (λ (box : MapBox). box.generation)) e) ∙ o.generation in
    record { open_box = b; found = f; box = box; there = e; meaning = o.meaning; generation = cc h }

pub open_of : (number : ℕ) (store : List ℕ) (ms : List MapBox) (bs : List OpenBox) (b : OpenBox) → AreBoxLogs store ms bs → find (λ b. b.number.0 == number) bs ≡ Some b → IsOpenBox number ms bs
open_of number store ms bs b a f = open_by number ms bs b (find (λ (box : MapBox). box.number == number) ms) f refl (subst (IsOpen number ms bs) f (in_step number store ms bs a))

last_of : (a b c : Bool) → (a && (b && c)) ≡ true → c ≡ true
last_of true true c e = e
last_of true false c e = absurd (false≢true e)
last_of false b c e = absurd (false≢true e)

due_by : (number : ℕ) (store : List ℕ) (ms : List MapBox) (bs : List OpenBox) (found : Option OpenBox) → AreBoxLogs store ms bs → find (λ b. b.number.0 == number) bs ≡ found → option_map_or is_box_due found false ≡ true
    → (o : IsOpenBox number ms bs) × (o.box.generation < 4294967294)
due_by number store ms bs None a f due = absurd (false≢true due)
due_by number store ms bs (Some b) a f due =
    let o = open_of number store ms bs b a f in
    let same : Some b ≡ Some o.open_box = sym f ∙ o.found in
    let is : b ≡ o.open_box = cc same in
    let below : b.log.head.generation < 4294967294 = ltb-true b.log.head.generation 4294967294 (last_of (nat_le 1024 b.log.count) (nat_lt (2 * needs_of_box b.index.meaning) b.log.count) (nat_lt b.log.head.generation 4294967294) due) in
    (o, subst (λ (n : ℕ). n < 4294967294) (ap (λ (x : OpenBox). x.log.head.generation) is ∙ o.generation) below)

-- its generation isn't the last one
pub due_box : (number : ℕ) (store : List ℕ) (ms : List MapBox) (bs : List OpenBox) → AreBoxLogs store ms bs → option_map_or is_box_due (find (λ b. b.number.0 == number) bs) false ≡ true → (o : IsOpenBox number ms bs) × (o.box.generation < 4294967294)
due_box number store ms bs a due = due_by number store ms bs (find (λ (b : OpenBox). b.number.0 == number) bs) a refl due

open_from : (number : ℕ) (ms : List MapBox) (bs : List OpenBox) (box : MapBox) (found : Option OpenBox) → find (λ b. b.number.0 == number) bs ≡ found → find (λ box. box.number == number) ms ≡ Some box → IsOpen number ms bs found → IsOpenBox number ms bs
open_from number ms bs box None f e o = absurd (cc (let h : Some box.generation ≡ None = sym (ap (option_map (λ (b : MapBox). b.generation)) e) ∙ o.generation in h))
open_from number ms bs box (Some b) f e o = open_by number ms bs b (Some box) f e o

-- a mailbox of the map is open
pub open_in_map : (number : ℕ) (store : List ℕ) (ms : List MapBox) (bs : List OpenBox) (box : MapBox) → AreBoxLogs store ms bs → find (λ box. box.number == number) ms ≡ Some box → IsOpenBox number ms bs
open_in_map number store ms bs box a e = open_from number ms bs box (find (λ (b : OpenBox). b.number.0 == number) bs) refl e (in_step number store ms bs a)

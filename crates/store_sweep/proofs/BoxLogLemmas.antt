-- The logs of the mailboxes, repaired one after another.
use Rattle.std.proofs.Common.{◌≡◌, ℕ, ◌+◌, ◌<◌, ◌≤◌, ◌++◌, ◌∷◌, [], suc, append_assoc, length-append, true, false, Bool, List, length, map, take, slice_get, Option, Some, None, All, refl, sym, ◌∙◌, ap, subst, arith}
use Rattle.std.specs.Prelude.{AllPairs, Contains}
use Rattle.std.specs.List.{list_any, AllZip}
use Rattle.std.proofs.lemmas.List.Elements.{All-contains, Contains-append_right}
use Rattle.std.proofs.lemmas.List.{append-nil, map-append, length-map}
use Rattle.std.proofs.lemmas.Bool.{true≢false, or_parts, or_from, not-true, not_from_false}
use Rattle.disk_model.specs.Disk.{FileState, DiskState, History, IfTold, EachImage, OthersStay, SameButFor, reading, Keeps}
use Rattle.disk_model.specs.Name.{same_name}
use Rattle.disk_model.specs.declared.name.FileName.{FileName}
use Rattle.disk_model.proofs.NameLemmas.{same_name-eq, same_name-false}
use Rattle.model_logs.specs.LogFile.{IsLogFile, log_front}
use Rattle.model_meaning.specs.MapMeaning.{MapBox, MapMeaning}
use Rattle.model_octets.proofs.PairLemmas.{pairs_head, pairs_tail}
use Rattle.gate_log.specs.State.{LogState, InspectedLog}
use Rattle.gate_log.specs.Log.{IsFound, IsFoundKept, Reads, Holds}
use Rattle.store_sweep.specs.Moments.{ImagesCarry, KeepsStore, SameWhere}
use Rattle.std.specs.Option.{option_map}
use Rattle.map_index.specs.Shown.{shown_box}
use Rattle.map_index.specs.declared.rows.BoxAt.{BoxAt}
use Rattle.store_checks.specs.declared.mailbox.CheckedBox.{CheckedBox}
use Rattle.store_checks.proofs.WalkLemmas.{behind, map_next}
use Rattle.store_core.specs.declared.store.OpenBox.{OpenBox}
use Rattle.store_sweep.specs.Boxes.{found_logs, opened_logs}
use Rattle.store_sweep.specs.Repaired.{StandsFound, IsRepaired, box_name, AreLogsOfBoxes, is_outside, is_no_box}
use Rattle.store_sweep.proofs.RepairLemmas.{IsLogAt, box_log, repair_images, repair_keeps, repaired_stays, stays_but_for}
use Rattle.store_sweep.proofs.SweepStepLemmas.{images_then, keeps_then}

-- ---- the next log

pub record Next (m : MapMeaning) (done : List InspectedLog) (log : InspectedLog) : Type 0 where
  pub box : MapBox
  pub among : Contains m.boxes box
  pub name : log.name ≡ box_name box
  pub fresh : list_any (λ other. same_name log.name other.name) done ≡ false

contains_first : (box : MapBox) (boxes : List MapBox) → Contains (box ∷ boxes) box
contains_first box boxes = (0, omega arith, refl)

contains_later : (first box : MapBox) (boxes : List MapBox) → Contains boxes box → Contains (first ∷ boxes) box
contains_later first box boxes c = (suc c.0, omega (arith, c.1), c.2)

box_number : (a b : MapBox) → box_name a ≡ box_name b → a.number ≡ b.number
box_number a b e = cc

next_among : (boxes : List MapBox) (done : List InspectedLog) (log : InspectedLog) (rest : List InspectedLog) → AllPairs (λ a b. a.number < b.number) boxes → map (λ l. l.name) (done ++ log ∷ rest) ≡ map box_name boxes
    → (box : MapBox) × Contains boxes box × (log.name ≡ box_name box) × (list_any (λ other. same_name log.name other.name) done ≡ false)
next_among [] [] log rest rising names = absurd (let e : log.name ∷ map (λ (l : InspectedLog). l.name) rest ≡ [] = names in cc)
next_among [] (d ∷ done) log rest rising names = absurd (let e : d.name ∷ map (λ (l : InspectedLog). l.name) (done ++ log ∷ rest) ≡ [] = names in cc)
next_among (b ∷ boxes) [] log rest rising names =
    let e : log.name ∷ map (λ (l : InspectedLog). l.name) rest ≡ box_name b ∷ map box_name boxes = names in
    (b, contains_first b boxes, cc, refl)
next_among (b ∷ boxes) (d ∷ done) log rest rising names =
    let e : d.name ∷ map (λ (l : InspectedLog). l.name) (done ++ log ∷ rest) ≡ box_name b ∷ map box_name boxes = names in
    let first : d.name ≡ box_name b = cc in
    let later : map (λ (l : InspectedLog). l.name) (done ++ log ∷ rest) ≡ map box_name boxes = cc in
    let r = next_among boxes done log rest (pairs_tail (λ (x y : MapBox). x.number < y.number) b boxes rising) later in
    let below : b.number < r.0.number = All-contains (λ (y : MapBox). b.number < y.number) boxes r.0 (pairs_head (λ (x y : MapBox). x.number < y.number) b boxes rising) r.1 in
    let apart : log.name ≡ d.name → ⊥ = λ s. let n : r.0.number ≡ b.number = box_number r.0 b (sym r.2 ∙ s ∙ first) in omega (arith, n, below) in
    (r.0, contains_later b r.0 boxes r.1, r.2, or_from (same_name log.name d.name) (list_any (λ (other : InspectedLog). same_name log.name other.name) done) (same_name-false log.name d.name apart) r.3)

pub next_log : (m : MapMeaning) (logs done : List InspectedLog) (log : InspectedLog) (rest : List InspectedLog) → AllPairs (λ a b. a.number < b.number) m.boxes → AreLogsOfBoxes m logs → done ++ log ∷ rest ≡ logs → Next m done log
next_log m logs done log rest rising names whole =
    let r = next_among m.boxes done log rest rising (ap (map (λ (l : InspectedLog). l.name)) whole ∙ names) in
    record { box = r.0; among = r.1; name = r.2; fresh = r.3 }

log_at : (g : ℕ) (m : MapMeaning) (done : List InspectedLog) (log : InspectedLog) → Next m done log → IsLogAt g m log.name
log_at g m done log next = subst (IsLogAt g m) (sym next.name) (box_log g m next.box next.among)

own_outside : (m : MapMeaning) (done : List InspectedLog) (log : InspectedLog) → Next m done log → is_outside done log.name ≡ true
own_outside m done log next = not_from_false (list_any (λ (other : InspectedLog). same_name log.name other.name) done) next.fresh

-- ---- it stands as it was found

found_along : (log : InspectedLog) (entries : List (List ℕ)) (old new : DiskState) → new log.name ≡ old log.name → IsFound log entries old → IsFound log entries new
found_along log entries old new e h = record {
  count = h.count;
  rest = h.rest;
  behind = h.behind;
  stands = record { reads = ap reading e ∙ h.stands.reads; end_is = h.stands.end_is; head_fits = h.stands.head_fits; entries_fit = h.stands.entries_fit; ends = h.stands.ends };
}

kept_along : (log : InspectedLog) (entries : List (List ℕ)) (old new : DiskState) → new log.name ≡ old log.name → IsFoundKept log entries old → IsFoundKept log entries new
kept_along log entries old new e h = record {
  count = h.count;
  rest = h.rest;
  behind = h.behind;
  kept = record {
    stands = record { reads = ap reading e ∙ h.kept.stands.reads; end_is = h.kept.stands.end_is; head_fits = h.kept.stands.head_fits; entries_fit = h.kept.stands.entries_fit; ends = h.kept.stands.ends };
    keeps = subst (λ (f : FileState). Keeps f (log_front log.head entries ++ log.gate ∷ h.rest)) (sym e) h.kept.keeps;
  };
}

pub still_found : (test : FileName → Bool) (log : InspectedLog) (entries : List (List ℕ)) (old now : Option History) → SameWhere test old now → test log.name ≡ true → IfTold old (IsFound log entries) → IfTold now (IsFound log entries)
still_found test log entries None None same passes h = tt
still_found test log entries None (Some now) same passes h = absurd (let e : Some now ≡ None = same in cc)
still_found test log entries (Some old) None same passes h = tt
still_found test log entries (Some old) (Some now) same passes h = found_along log entries old.now now.now (same log.name passes) h

pub still_kept : (test : FileName → Bool) (log : InspectedLog) (entries : List (List ℕ)) (old now : Option History) → SameWhere test old now → test log.name ≡ true → IfTold old (IsFoundKept log entries) → IfTold now (IsFoundKept log entries)
still_kept test log entries None None same passes h = tt
still_kept test log entries None (Some now) same passes h = absurd (let e : Some now ≡ None = same in cc)
still_kept test log entries (Some old) None same passes h = tt
still_kept test log entries (Some old) (Some now) same passes h = kept_along log entries old.now now.now (same log.name passes) h

contains_middle : (done : List InspectedLog) (log : InspectedLog) (rest : List InspectedLog) → Contains (done ++ log ∷ rest) log
contains_middle done log rest = Contains-append_right done (log ∷ rest) log (0, omega arith, refl)

some_entries : (logs done : List InspectedLog) (log : InspectedLog) (rest : List InspectedLog) (old : Option History) → done ++ log ∷ rest ≡ logs → IfTold old (λ disk. All (StandsFound disk) logs) → (entries : List (List ℕ)) × IfTold old (IsFound log entries)
some_entries logs done log rest None whole stand = ([], tt)
some_entries logs done log rest (Some old) whole stand =
    let s : StandsFound old.now log = All-contains (StandsFound old.now) (done ++ log ∷ rest) log (subst (λ (xs : List InspectedLog). All (StandsFound old.now) xs) (sym whole) stand) (contains_middle done log rest) in
    (s.entries, s.is)

pub next_stands : (m : MapMeaning) (logs done : List InspectedLog) (log : InspectedLog) (rest : List InspectedLog) (old now : Option History) → Next m done log → done ++ log ∷ rest ≡ logs → IfTold old (λ disk. All (StandsFound disk) logs)
    → SameWhere (is_outside done) old now → (entries : List (List ℕ)) × IfTold now (IsFound log entries)
next_stands m logs done log rest old now next whole stand same =
    let r = some_entries logs done log rest old whole stand in
    (r.0, still_found (is_outside done) log r.0 old now same (own_outside m done log next) r.1)

-- ---- one more

pub next_images : (g : ℕ) (m : MapMeaning) (done : List InspectedLog) (log : InspectedLog) (old now new : Option History) → Next m done log → (entries : List (List ℕ)) × IfTold now (IsFound log entries) → ImagesCarry g m old now → KeepsStore g m old now
    → ((es : List (List ℕ)) → IfTold now (IsFoundKept log es) → EachImage (λ _ image. IsLogFile (image log.name) log.head es × OthersStay log.name now image) now new) → ImagesCarry g m old new
next_images g m done log old now new next stands images keeps each =
    images_then g m old now new images keeps.holds (repair_images g m log stands.0 now new (log_at g m done log next) stands.1 each)

pub next_repaired : (m : MapMeaning) (done : List InspectedLog) (log : InspectedLog) (gate : LogState) (old now new : Option History) → Next m done log → SameWhere (is_outside done) old now → IsRepaired now new log gate → IsRepaired old new log gate
next_repaired m done log gate old now new next same r = record {
  is = r.is;
  reads = λ entries h. r.reads entries (still_found (is_outside done) log entries old now same (own_outside m done log next) h);
  holds = λ entries h. r.holds entries (still_kept (is_outside done) log entries old now same (own_outside m done log next) h);
}

pub next_keeps : (g : ℕ) (m : MapMeaning) (done : List InspectedLog) (log : InspectedLog) (gate : LogState) (old now new : Option History) → Next m done log → (entries : List (List ℕ)) × IfTold now (IsFound log entries) → KeepsStore g m old now
    → SameButFor log.name now new → IsRepaired now new log gate → KeepsStore g m old new
next_keeps g m done log gate old now new next stands keeps same r = keeps_then g m old now new keeps (repair_keeps g m log gate stands.0 now new (log_at g m done log next) stands.1 same r)

earlier_stay : (done : List InspectedLog) (gates : List LogState) (log : InspectedLog) (old now new : Option History) → list_any (λ other. same_name log.name other.name) done ≡ false → SameButFor log.name now new → AllZip (IsRepaired old now) done gates → AllZip (IsRepaired old new) done gates
earlier_stay [] [] log old now new fresh same r = tt
earlier_stay [] (gate ∷ gates) log old now new fresh same r = absurd r
earlier_stay (d ∷ done) [] log old now new fresh same r = absurd r
earlier_stay (d ∷ done) (gate ∷ gates) log old now new fresh same r =
    let parts = or_parts (same_name log.name d.name) (list_any (λ (other : InspectedLog). same_name log.name other.name) done) fresh in
    let apart : d.name ≡ log.name → ⊥ = λ e. true≢false (sym (same_name-eq log.name d.name (sym e)) ∙ parts.0) in
    (repaired_stays d gate old now new (stays_but_for d.name log.name now new apart same) r.0, earlier_stay done gates log old now new parts.1 same r.1)

zip_push : (R : InspectedLog → LogState → Type 0) (xs : List InspectedLog) (ys : List LogState) (x : InspectedLog) (y : LogState) → AllZip R xs ys → R x y → AllZip R (xs ++ x ∷ []) (ys ++ y ∷ [])
zip_push R [] [] x y all own = (own, tt)
zip_push R [] (b ∷ ys) x y all own = absurd all
zip_push R (a ∷ xs) [] x y all own = absurd all
zip_push R (a ∷ xs) (b ∷ ys) x y all own = (all.0, zip_push R xs ys x y all.1 own)

pub next_opened : (m : MapMeaning) (done : List InspectedLog) (log : InspectedLog) (gates : List LogState) (gate : LogState) (old now new : Option History) → Next m done log → SameWhere (is_outside done) old now → SameButFor log.name now new → IsRepaired now new log gate
    → AllZip (IsRepaired old now) done gates → AllZip (IsRepaired old new) (done ++ log ∷ []) (gates ++ gate ∷ [])
next_opened m done log gates gate old now new next outside same r opened =
    zip_push (IsRepaired old new) done gates log gate (earlier_stay done gates log old now new next.fresh same opened) (next_repaired m done log gate old now new next outside r)

any_both : (p : InspectedLog → Bool) (done : List InspectedLog) (log : InspectedLog) → list_any p (done ++ log ∷ []) ≡ false → (list_any p done ≡ false) × (p log ≡ false)
any_both p [] log e = (refl, (or_parts (p log) false e).0)
any_both p (d ∷ done) log e =
    let parts = or_parts (p d) (list_any p (done ++ log ∷ [])) e in
    let r = any_both p done log parts.1 in
    (or_from (p d) (list_any p done) parts.0 r.0, r.1)

pub next_outside : (done : List InspectedLog) (log : InspectedLog) (old now new : Option History) → SameWhere (is_outside done) old now → SameButFor log.name now new → SameWhere (is_outside (done ++ log ∷ [])) old new
next_outside done log None None new outside same = same
next_outside done log None (Some now) new outside same = absurd (let e : Some now ≡ None = outside in cc)
next_outside done log (Some old) None new outside same = absurd outside
next_outside done log (Some old) (Some now) None outside same = absurd same
next_outside done log (Some old) (Some now) (Some new) outside same = λ name passes.
    let parts = any_both (λ (other : InspectedLog). same_name name other.name) done log (not-true (list_any (λ (other : InspectedLog). same_name name other.name) (done ++ log ∷ [])) passes) in
    same name (λ e. true≢false (sym (same_name-eq name log.name e) ∙ parts.1)) ∙ outside name (not_from_false (list_any (λ (other : InspectedLog). same_name name other.name) done) parts.0)

-- ---- all

no_box_outside : (boxes : List MapBox) (logs : List InspectedLog) (name : FileName) → map (λ l. l.name) logs ≡ map box_name boxes → is_no_box name ≡ true → list_any (λ other. same_name name other.name) logs ≡ false
no_box_outside boxes [] name names no_box = refl
no_box_outside [] (log ∷ logs) name names no_box = absurd (let e : log.name ∷ map (λ (l : InspectedLog). l.name) logs ≡ [] = names in cc)
no_box_outside (b ∷ boxes) (log ∷ logs) name names no_box =
    let e : log.name ∷ map (λ (l : InspectedLog). l.name) logs ≡ box_name b ∷ map box_name boxes = names in
    let first : log.name ≡ box_name b = cc in
    let later : map (λ (l : InspectedLog). l.name) logs ≡ map box_name boxes = cc in
    let apart : name ≡ log.name → ⊥ = λ s. true≢false (sym no_box ∙ ap is_no_box (s ∙ first)) in
    or_from (same_name name log.name) (list_any (λ (other : InspectedLog). same_name name other.name) logs) (same_name-false name log.name apart) (no_box_outside boxes logs name later no_box)

pub others_stay : (m : MapMeaning) (logs : List InspectedLog) (old new : Option History) → AreLogsOfBoxes m logs → SameWhere (is_outside logs) old new → SameWhere is_no_box old new
others_stay m logs None new names same = same
others_stay m logs (Some old) None names same = same
others_stay m logs (Some old) (Some new) names same = λ name no_box. same name (not_from_false (list_any (λ (other : InspectedLog). same_name name other.name) logs) (no_box_outside m.boxes logs name names no_box))

-- ---- how far the loop is

pub whole_next : {X : Type 0} → (done : List X) (log : X) (left rest logs : List X) → left ≡ log ∷ rest → done ++ left ≡ logs → done ++ log ∷ rest ≡ logs
whole_next done log left rest logs e whole = ap (λ (xs : List _). done ++ xs) (sym e) ∙ whole

pub whole_more : {X : Type 0} → (done : List X) (log : X) (left rest logs : List X) → left ≡ log ∷ rest → done ++ left ≡ logs → (done ++ log ∷ []) ++ rest ≡ logs
whole_more done log left rest logs e whole = append_assoc done (log ∷ []) rest ∙ whole_next done log left rest logs e whole

pub left_more : {X : Type 0} → (log : X) (left rest : List X) (m n : ℕ) → left ≡ log ∷ rest → m ≡ length left → n + 1 ≡ m → n ≡ length rest
left_more log left rest m n e long one = let l : length left ≡ length (log ∷ rest) = ap length e in omega (arith, long, one, l)

pub is_room : {X : Type 0} → (done : List X) (log : X) (rest logs : List X) (size cap old : ℕ) → done ++ log ∷ rest ≡ logs → length logs ≤ old → old ≤ cap → size ≡ length done → size < cap
is_room done log rest logs size cap old whole room grown is =
    let l : length (done ++ log ∷ rest) ≡ length logs = ap length whole in
    omega (arith, l, length-append done (log ∷ rest), room, grown, is)

nothing_left : {X : Type 0} → (xs : List X) → 0 ≡ length xs → xs ≡ []
nothing_left [] e = refl
nothing_left (x ∷ xs) e = absurd (omega (arith, e))

pub whole_done : {X : Type 0} → (done left logs : List X) (m : ℕ) → m ≡ 0 → m ≡ length left → done ++ left ≡ logs → done ≡ logs
whole_done done left logs m none long whole =
    let e : left ≡ [] = nothing_left left (sym none ∙ long) in
    sym (append-nil done) ∙ ap (λ (xs : List _). done ++ xs) (sym e) ∙ whole

pub made_repaired : (old new : Option History) (log : InspectedLog) (gate : LogState) → gate ≡ record { name = log.name; head = log.head; end = log.end; count = log.count; room = 0 } → ((es : List (List ℕ)) → IfTold old (IsFound log es) → Reads gate es new)
    → ((es : List (List ℕ)) → IfTold old (IsFoundKept log es) → Holds gate es new) → IsRepaired old new log gate
made_repaired old new log gate is reads holds = record { is = is; reads = reads; holds = holds }

pub pushed_opened : (old new : Option History) (done : List InspectedLog) (log : InspectedLog) (gates after : List LogState) (gate : LogState) → after ≡ gates ++ gate ∷ [] → AllZip (IsRepaired old new) (done ++ log ∷ []) (gates ++ gate ∷ []) → AllZip (IsRepaired old new) (done ++ log ∷ []) after
pushed_opened old new done log gates after gate e all = subst (λ (xs : List LogState). AllZip (IsRepaired old new) (done ++ log ∷ []) xs) (sym e) all

pub one_longer : {X : Type 0} → (done : List X) (log : X) (m n : ℕ) → m ≡ n + 1 → n ≡ length done → m ≡ length (done ++ log ∷ [])
one_longer done log m n e long = omega (arith, e, long, length-append done (log ∷ []))

pub none_opened : (old : Option History) (gates : List LogState) → gates ≡ [] → AllZip (IsRepaired old old) [] gates
none_opened old gates e = subst (λ (xs : List LogState). AllZip (IsRepaired old old) [] xs) (sym e) tt

-- ---- the mailboxes of the logs

-- the logs of mailboxes in two parts
pub logs_whole : (done : List CheckedBox) (box : CheckedBox) (rest boxes : List CheckedBox) → done ++ box ∷ rest ≡ boxes → found_logs done ++ box.log ∷ found_logs rest ≡ found_logs boxes
logs_whole done box rest boxes e = sym (map-append (λ (b : CheckedBox). b.log) done (box ∷ rest)) ∙ ap found_logs e

-- and with one more
pub logs_more : (done : List CheckedBox) (box : CheckedBox) → found_logs (done ++ box ∷ []) ≡ found_logs done ++ box.log ∷ []
logs_more done box = map-append (λ (b : CheckedBox). b.log) done (box ∷ [])

pub gates_more : (gates after : List OpenBox) (gate : OpenBox) → after ≡ gates ++ gate ∷ [] → opened_logs after ≡ opened_logs gates ++ gate.log ∷ []
gates_more gates after gate e = ap opened_logs e ∙ map-append (λ (b : OpenBox). b.log) gates (gate ∷ [])

pub indexes_more : (done : List CheckedBox) (box : CheckedBox) (gates after : List OpenBox) (gate : OpenBox) → after ≡ gates ++ gate ∷ [] → gate.index ≡ box.index → map (λ b. b.index) gates ≡ map (λ b. b.index) done → map (λ b. b.index) after ≡ map (λ b. b.index) (done ++ box ∷ [])
indexes_more done box gates after gate e same is =
    ap (map (λ (b : OpenBox). b.index)) e ∙ map-append (λ (b : OpenBox). b.index) gates (gate ∷ []) ∙ ap (λ (xs : List _). xs ++ gate.index ∷ []) is ∙ ap (λ (i : _). map (λ (b : CheckedBox). b.index) done ++ i ∷ []) same
    ∙ sym (map-append (λ (b : CheckedBox). b.index) done (box ∷ []))

-- one more number of the map
pub numbers_more : (boxes : List MapBox) (place : ℕ) (at : BoxAt) (o : Option BoxAt) (gates after : List OpenBox) (gate : OpenBox) → o ≡ option_map shown_box (slice_get boxes place) → o ≡ Some at → gate.number.0 ≡ at.number.0 → after ≡ gates ++ gate ∷ []
    → map (λ b. b.number.0) gates ≡ map (λ b. b.number) (take place boxes) → map (λ b. b.number.0) after ≡ map (λ b. b.number) (take (place + 1) boxes)
numbers_more boxes place at o gates after gate e is n push so_far =
    let b = behind shown_box (slice_get boxes place) at (sym is ∙ e) in
    map_next (λ (y : MapBox). y.number) boxes place b.0 gate.number.0 (map (λ (r : OpenBox). r.number.0) gates) (map (λ (r : OpenBox). r.number.0) after) b.1 (n ∙ ap (λ (a : BoxAt). a.number.0) b.2) so_far
    (ap (map (λ (r : OpenBox). r.number.0)) push ∙ map-append (λ (r : OpenBox). r.number.0) gates (gate ∷ []))

-- as many as there are
pub many : (m : MapMeaning) (logs : List InspectedLog) → AreLogsOfBoxes m logs → length logs ≡ length m.boxes
many m logs names = sym (length-map logs (λ (l : InspectedLog). l.name)) ∙ ap length names ∙ length-map m.boxes box_name

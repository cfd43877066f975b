-- A store that was closed well, and the mail of a store that is opened.
use Rattle.std.proofs.Common.{◌≡◌, ◌++◌, ◌∷◌, [], inr, ℕ, List, length, map, All, Option, Some, None, refl, sym, ◌∙◌, ap, subst}
use Rattle.std.proofs.lemmas.List.Elements.{All-nil, All-cons, All-head, All-tail}
use Rattle.disk_model.specs.Disk.{DiskState, History, IfTold, IsIdle, reading}
use Rattle.disk_model.specs.declared.name.FileName.{FileName}
use Rattle.disk_model.specs.declared.name.FileName.TheVariants as file
use Rattle.disk_model.proofs.IdleLemmas.{idle-then}
use Rattle.mdbox_base.specs.declared.entries.BoxEntry.{BoxEntry}
use Rattle.mdbox_base.specs.declared.entries.MapEntry.{MapEntry}
use Rattle.mdbox_base.specs.declared.entries.RootEntry.{RootEntry}
use Rattle.model_kept.specs.Kept.{MailIsKept}
use Rattle.model_logs.specs.declared.log_head.LogHead.{LogHead}
use Rattle.model_logs.specs.LogFile.{log_front}
use Rattle.model_logs.proofs.LogFileLemmas.{front_same, stops-ends}
use Rattle.model_meaning.specs.MapMeaning.{MapBox, MapMeaning, map_meaning}
use Rattle.model_store.specs.Opening.{Opens}
use Rattle.model_store.specs.Settled.{files_of}
use Rattle.model_store.proofs.OpeningLemmas.{one_store}
use Rattle.model_store.proofs.StandsLemmas.{root_same}
use Rattle.gate_log.specs.State.{InspectedLog, IsWholeLog}
use Rattle.gate_log.specs.Log.{IsFound}
use Rattle.store_checks.specs.Boxes.{IsFoundAs, AreFound}
use Rattle.store_checks.specs.Store.{IsChecked}
use Rattle.store_checks.specs.declared.check.Checked.{Checked}
use Rattle.store_checks.specs.declared.mailbox.CheckedBox.{CheckedBox}
use Rattle.store_sweep.specs.Moments.{IdleIf}
use Rattle.store_sweep.specs.Wanted.{HasNothingToSweep}
use Rattle.store_open.specs.Opened.{IsClosedLog, IsClosedWell}
use Rattle.store_open.proofs.CheckedLemmas.{OpensAt, opens_at}

-- ---- the mail

pub mail_of_opened : (m : MapMeaning) (store : List ℕ) (entries : List MapEntry) (logs : List (List BoxEntry)) (old new : Option History) → m ≡ map_meaning store entries → IfTold old (λ was. Opens (files_of was) store entries logs) → MailIsKept m old new
    → (other : List ℕ) (es : List MapEntry) (ls : List (List BoxEntry)) → IfTold old (λ was. Opens (files_of was) other es ls) → MailIsKept (map_meaning other es) old new
mail_of_opened m store entries logs None new is opens kept other es ls o = kept
mail_of_opened m store entries logs (Some old) new is opens kept other es ls o =
    let e = one_store (files_of old.now) store other entries es logs ls opens o in
    let means : m ≡ map_meaning other es = cc (is, e.0, e.1) in
    subst (λ (k : MapMeaning). MailIsKept k (Some old) new) means kept

-- ---- logs that end in closed gates

same_text : (x y : List ℕ) → Some x ≡ Some y → x ≡ y
same_text x y e = cc

whole_found : (found : InspectedLog) (entries : List (List ℕ)) (disk : DiskState) → IsFound found entries disk → IsClosedLog (reading (disk found.name)) → IsWholeLog found
whole_found found entries disk f closed =
    let e : log_front found.head entries ++ found.gate ∷ f.rest ≡ log_front closed.head closed.entries ++ 0 ∷ [] = same_text _ _ (sym f.stands.reads ∙ closed.is) in
    let r = front_same found.head closed.head entries closed.entries found.gate 0 f.rest [] f.stands.head_fits closed.head_fits f.stands.entries_fit closed.entries_fit (stops-ends found.gate f.rest f.stands.ends) (stops-ends 0 [] (inr refl)) e in
    (r.2, f.behind ∙ ap length r.3)

whole_as : (found : InspectedLog) (name : FileName) (head : LogHead) (entries : List (List ℕ)) (now : History) → IsFoundAs found name head entries (Some now) → IsClosedLog (reading (now.now name)) → IsWholeLog found
whole_as found name head entries now f closed = whole_found found entries now.now f.stands (subst (λ (n : FileName). IsClosedLog (reading (now.now n))) (sym f.name_is) closed)

all_whole : (store : List ℕ) (mailboxes : List MapBox) (boxes : List CheckedBox) (logs : List (List BoxEntry)) (now : History) → AreFound store mailboxes boxes logs (Some now)
    → All (λ box. IsClosedLog (reading (now.now (file.Box box.number box.generation)))) mailboxes → All IsWholeLog (map (λ b. b.log) boxes)
all_whole store [] [] [] now f closed = All-nil IsWholeLog
all_whole store (x ∷ xs) (b ∷ bs) (l ∷ ls) now f closed =
    let P : MapBox → Type 0 = λ box. IsClosedLog (reading (now.now (file.Box box.number box.generation))) in
    All-cons IsWholeLog b.log (map (λ (c : CheckedBox). c.log) bs) (whole_as b.log _ _ _ now f.0 (All-head P x xs closed)) (all_whole store xs bs ls now f.1 (All-tail P x xs closed))
all_whole store [] [] (l ∷ ls) now f closed = absurd f
all_whole store [] (b ∷ bs) ls now f closed = absurd f
all_whole store (x ∷ xs) [] ls now f closed = absurd f
all_whole store (x ∷ xs) (b ∷ bs) [] now f closed = absurd f

-- ---- the store

-- what a store that was closed well is, as the checks find it
record IsFoundClosed (c : Checked) (now : History) : Type 0 where
  logs : All IsWholeLog (c.root_log ∷ c.map_log ∷ map (λ b. b.log) c.boxes)
  nothing : HasNothingToSweep c.generation c.map.meaning now.now

found_closed : (c : Checked) (before : List RootEntry) (entries : List MapEntry) (logs : List (List BoxEntry)) (old now : History) → IsIdle (Some old) (Some now) → IsChecked c before entries logs (Some old) (Some now) → IsClosedWell now.now → IsFoundClosed c now
found_closed c before entries logs old now idle k p =
    let at : OpensAt c.id.0 c.generation entries logs now.now = opens_at c before entries logs (Some old) (Some now) idle k in
    let e = one_store (files_of now.now) p.store c.id.0 p.entries entries p.logs logs p.opens at.0 in
    let g = root_same (files_of now.now) p.store c.id.0 p.opens.passed.map_log.generation at.0.passed.map_log.generation p.opens.passed.map_log.root at.0.passed.map_log.root in
    let generation : p.opens.passed.map_log.generation ≡ c.generation = g.1 ∙ at.1 in
    let m : map_meaning p.store p.entries ≡ c.map.meaning = cc (e.0, e.1, k.map_is) in
    record {
      logs = All-cons IsWholeLog c.root_log (c.map_log ∷ map (λ b. b.log) c.boxes) (whole_as c.root_log _ _ _ now k.root_log p.root_log)
          (All-cons IsWholeLog c.map_log (map (λ b. b.log) c.boxes) (whole_as c.map_log _ _ _ now k.map_log (subst (λ (n : ℕ). IsClosedLog (reading (now.now (file.Map n)))) generation p.map_log))
          (all_whole c.id.0 c.map.meaning.boxes c.boxes logs now k.box_logs (subst (λ (x : MapMeaning). All (λ box. IsClosedLog (reading (now.now (file.Box box.number box.generation)))) x.boxes) m p.box_logs)));
      nothing = subst (λ (n : ℕ). HasNothingToSweep n c.map.meaning now.now) generation (subst (λ (x : MapMeaning). HasNothingToSweep p.opens.passed.map_log.generation x now.now) m p.nothing);
    }

pub closed_sweep : (c : Checked) (before : List RootEntry) (entries : List MapEntry) (logs : List (List BoxEntry)) (old now mid new : Option History) → IsIdle old now → IsIdle now mid → IsChecked c before entries logs old now
    → (All IsWholeLog (c.root_log ∷ c.map_log ∷ map (λ b. b.log) c.boxes) → IdleIf (HasNothingToSweep c.generation c.map.meaning) mid new) → IdleIf IsClosedWell old new
closed_sweep c before entries logs None now mid new first second k swept = tt
closed_sweep c before entries logs (Some old) None mid new first second k swept = λ p. elim first.same [ ]
closed_sweep c before entries logs (Some old) (Some now) None new first second k swept = λ p. elim second.same [ ]
closed_sweep c before entries logs (Some old) (Some now) (Some mid) new first second k swept = λ p.
    let e : now.now ≡ old.now = first.same in
    let d : mid.now ≡ now.now = second.same in
    let found = found_closed c before entries logs old now first k (subst IsClosedWell (sym e) p) in
    idle-then (Some old) (Some mid) new (idle-then (Some old) (Some now) (Some mid) first second)
    (swept found.logs (subst (HasNothingToSweep c.generation c.map.meaning) (sym d) found.nothing))

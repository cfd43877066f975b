-- What one row does to the count of a record, to what tasks hold and owe of it, and to its references: the two sides stay
-- apart by what they were.
use Rattle.std.specs.Prelude.{◌≡◌, ◌≤◌, ◌+◌, ◌-◌, ◌==◌, ◌||◌, ℕ, Bool, true, false, cond, List, [], ◌∷◌, count_by, sum_by, refl}
use Rattle.std.specs.Option.{option_map_or}
use Rattle.std.proofs.Common.{sym, ◌∙◌, ap, arith}
use Rattle.std.proofs.lemmas.List.Sums.{sum_by-cons, sum_by-append}
use Rattle.mdbox_base.specs.declared.ids.BoxNo.{BoxNo}
use Rattle.mdbox_base.specs.declared.ids.MapUid.{MapUid}
use Rattle.mdbox_base.specs.declared.entries.MapCount.{MapCount}
use Rattle.mdbox_base.specs.declared.entries.MapEntry.{MapEntry}
use Rattle.mdbox_base.specs.declared.entries.MapEntry.TheVariants as entry
use Rattle.model_lists.specs.Lists.{Lists, refs_of}
use Rattle.model_meaning.specs.MapMeaning.{MapRecord, count_given, record_changed}
use Rattle.list_machine.specs.Run.{BoxAppend, RunEvent, Run, and_then}
use Rattle.journal.specs.Events.{uid_raised, begun_in, added_in, lowered_in, ended_in}
use Rattle.journal.specs.ExactCounts.{IsBalanced, begun_so_far, ended, CountsAddUp}

-- the same of an event by what it appended and owes
abbrev raised_in : ℕ → MapEntry → Bool
raised_in uid e = option_map_or (λ u. u == uid) (uid_raised e) false

begun_is : (uid : ℕ) (event : RunEvent) (entries : List MapEntry) (owes : List ℕ) → event.map_entries ≡ entries → event.owes ≡ owes → begun_in uid event ≡ count_by (raised_in uid) entries + count_by (λ u. u == uid) owes
begun_is uid event entries owes e f =
    ap (λ (l : List MapEntry). count_by (raised_in uid) l + count_by (λ (u : ℕ). u == uid) event.owes) e ∙ ap (λ (l : List ℕ). count_by (raised_in uid) entries + count_by (λ (u : ℕ). u == uid) l) f

ended_is : (uid : ℕ) (event : RunEvent) (entries : List MapEntry) (boxes : List BoxAppend) → event.map_entries ≡ entries → event.box_entries ≡ boxes → ended_in uid event ≡ count_by (added_in uid) boxes + sum_by (lowered_in uid) entries
ended_is uid event entries boxes e f =
    ap (λ (l : List MapEntry). count_by (added_in uid) event.box_entries + sum_by (lowered_in uid) l) e ∙ ap (λ (l : List BoxAppend). count_by (added_in uid) l + sum_by (lowered_in uid) entries) f

-- A raise: the count and the holds.
pub raise_balances : (row : MapRecord) (uid : MapUid) (event : RunEvent) → event.map_entries ≡ entry.U uid ∷ [] → event.box_entries ≡ [] → event.owes ≡ [] → IsBalanced row (record_changed (entry.U uid) row) event 0 0
raise_balances row uid event e f g =
    let b = begun_is row.uid event (entry.U uid ∷ []) [] e g in
    let d = ended_is row.uid event (entry.U uid ∷ []) [] e f in
    let p = sum_by-cons (λ (x : MapEntry). cond (raised_in row.uid x) 1 0) (entry.U uid) [] in
    let q = sum_by-cons (lowered_in row.uid) (entry.U uid) [] in
    by_test (uid.0 == row.uid) b d p q
  where
    by_test : (t : Bool) → begun_in row.uid event ≡ sum_by (λ x. cond (raised_in row.uid x) 1 0) (entry.U uid ∷ []) + 0 → ended_in row.uid event ≡ 0 + sum_by (lowered_in row.uid) (entry.U uid ∷ [])
        → sum_by (λ x. cond (raised_in row.uid x) 1 0) (entry.U uid ∷ []) ≡ cond t 1 0 + 0 → sum_by (lowered_in row.uid) (entry.U uid ∷ []) ≡ 0 + 0
        → ((cond t (record row { count = row.count + 1 }) row).count + ended_in row.uid event) + 0 ≡ (row.count + begun_in row.uid event) + 0
    by_test true b d p q = omega (arith, b, d, p, q)
    by_test false b d p q = omega (arith, b, d, p, q)

-- A lowering: the count, and a hold or a debt.
any_one : (b : Bool) → (b || false) ≡ b
any_one true = refl
any_one false = refl

pub lower_balances : (row : MapRecord) (uid : MapUid) (event : RunEvent) → event.map_entries ≡ entry.D (uid ∷ []) ∷ [] → event.box_entries ≡ [] → event.owes ≡ [] → ((uid.0 == row.uid) ≡ true → 1 ≤ row.count)
    → IsBalanced row (record_changed (entry.D (uid ∷ [])) row) event 0 0
lower_balances row uid event e f g some =
    let b = begun_is row.uid event (entry.D (uid ∷ []) ∷ []) [] e g in
    let d = ended_is row.uid event (entry.D (uid ∷ []) ∷ []) [] e f in
    let p = sum_by-cons (λ (x : MapEntry). cond (raised_in row.uid x) 1 0) (entry.D (uid ∷ [])) [] in
    let q = sum_by-cons (lowered_in row.uid) (entry.D (uid ∷ [])) [] in
    let r = sum_by-cons (λ (u : MapUid). cond (u.0 == row.uid) 1 0) uid [] in
    ap (λ (t : Bool). ((cond t (record row { count = row.count - 1 }) row).count + ended_in row.uid event) + 0) (any_one (uid.0 == row.uid)) ∙ by_test (uid.0 == row.uid) some b d p q r
  where
    by_test : (t : Bool) → (t ≡ true → 1 ≤ row.count) → begun_in row.uid event ≡ sum_by (λ x. cond (raised_in row.uid x) 1 0) (entry.D (uid ∷ []) ∷ []) + 0 → ended_in row.uid event ≡ 0 + sum_by (lowered_in row.uid) (entry.D (uid ∷ []) ∷ [])
        → sum_by (λ x. cond (raised_in row.uid x) 1 0) (entry.D (uid ∷ []) ∷ []) ≡ 0 + 0 → sum_by (lowered_in row.uid) (entry.D (uid ∷ []) ∷ []) ≡ sum_by (λ u. cond (u.0 == row.uid) 1 0) (uid ∷ []) + 0
        → sum_by (λ u. cond (u.0 == row.uid) 1 0) (uid ∷ []) ≡ cond t 1 0 + 0 → ((cond t (record row { count = row.count - 1 }) row).count + ended_in row.uid event) + 0 ≡ (row.count + begun_in row.uid event) + 0
    by_test true some b d p q r = let k = some refl in omega (arith, b, d, p, q, r, k)
    by_test false some b d p q r = omega (arith, b, d, p, q, r)

-- An addition: a hold ends, and a reference is added, of the same record.
pub addition_balances : (row : MapRecord) (event : RunEvent) (x : BoxAppend) (added : ℕ) → event.map_entries ≡ [] → event.box_entries ≡ x ∷ [] → event.owes ≡ [] → added ≡ cond (added_in row.uid x) 1 0 → IsBalanced row row event 0 added
addition_balances row event x added e f g same =
    let b = begun_is row.uid event [] [] e g in
    let d = ended_is row.uid event [] (x ∷ []) e f in
    let p = sum_by-cons (λ (y : BoxAppend). cond (added_in row.uid y) 1 0) x [] in
    omega (arith, b, d, p, same)

-- A removal: a reference is taken, and a debt begins, of the same record.
pub removal_balances : (row : MapRecord) (event : RunEvent) (x : BoxAppend) (owed taken : ℕ) → event.map_entries ≡ [] → event.box_entries ≡ x ∷ [] → event.owes ≡ owed ∷ [] → added_in row.uid x ≡ false → taken ≡ cond (owed == row.uid) 1 0
    → IsBalanced row row event taken 0
removal_balances row event x owed taken e f g none same =
    let b = begun_is row.uid event [] (owed ∷ []) e g in
    let d = ended_is row.uid event [] (x ∷ []) e f in
    let p = sum_by-cons (λ (y : BoxAppend). cond (added_in row.uid y) 1 0) x [] in
    let q = sum_by-cons (λ (u : ℕ). cond (u == row.uid) 1 0) owed [] in
    let z = ap (λ (t : Bool). one t) none in
    omega (arith, b, d, p, q, z, same)
  where
    one : Bool → ℕ
    one t = cond t 1 0

-- A deletion: the count falls by the references that leave.
pub deletion_balances : (row : MapRecord) (mailbox : BoxNo) (amounts : List MapCount) (event : RunEvent) → event.map_entries ≡ entry.X mailbox amounts ∷ [] → event.box_entries ≡ [] → event.owes ≡ [] → count_given row.uid amounts 0 ≤ row.count
    → IsBalanced row (record_changed (entry.X mailbox amounts) row) event (count_given row.uid amounts 0) 0
deletion_balances row mailbox amounts event e f g le =
    let b = begun_is row.uid event (entry.X mailbox amounts ∷ []) [] e g in
    let d = ended_is row.uid event (entry.X mailbox amounts ∷ []) [] e f in
    let p = sum_by-cons (λ (x : MapEntry). cond (raised_in row.uid x) 1 0) (entry.X mailbox amounts) [] in
    let q = sum_by-cons (lowered_in row.uid) (entry.X mailbox amounts) [] in
    omega (arith, b, d, p, q, le)

-- ---- over a run

-- Where an event balances, and the references change by what it takes and adds, a record still adds up, with the same leak.
pub adds_up_still : (run : Run) (event : RunEvent) (old new : Lists) (before after : MapRecord) (taken added leak : ℕ) → CountsAddUp run old before leak → IsBalanced before after event taken added → after.uid ≡ before.uid → after.guid ≡ before.guid
    → refs_of new before.guid + taken ≡ refs_of old before.guid + added → CountsAddUp (and_then run event) new after leak
adds_up_still run event old new before after taken added leak up balanced uid guid refs =
    let b = sum_by-append (begun_in before.uid) run.events (event ∷ []) in
    let d = sum_by-append (ended_in before.uid) run.events (event ∷ []) in
    let c = sum_by-cons (begun_in before.uid) event [] in
    let k = sum_by-cons (ended_in before.uid) event [] in
    let h : after.count + ended (and_then run event) before.uid ≡ (refs_of new before.guid + begun_so_far (and_then run event) before.uid) + leak = omega (arith, up, balanced, refs, b, d, c, k) in
    (ap (λ (n : ℕ). after.count + ended (and_then run event) n) uid ∙ h)
    ∙ (ap (λ (g : List ℕ). (refs_of new g + begun_so_far (and_then run event) before.uid) + leak) (sym guid) ∙ ap (λ (n : ℕ). (refs_of new after.guid + begun_so_far (and_then run event) n) + leak) (sym uid))

-- A delivery stays ready beside every event of every other task.
use Rattle.mail_save.proofs.Common.{◌≡◌, ◌≤◌, ◌==◌, ℕ, List, length, Option, refl, ◌∙◌, ap, arith, eq-eqb, History, MapUid, HasRecord, MapRecord, AttachingValue, due_at, StoreValue, Claims, Due, one_if, Beside, save_claims, AreAttached, IsAttached, SavedParts, SaveStage}
use Rattle.task_claims.proofs.LeftLemmas.{due_left, record_left}
use Rattle.task_claims.specs.Stable.{IsStable}
use Rattle.mail_save.specs.Parts.{AreBeingAttached}
use Rattle.mail_save.specs.Task.{IsReadyToDeliver}
use Rattle.mail_save.specs.declared.task.SaveStage.TheVariants as stage
use Rattle.mail_save.proofs.StableFoundLemmas.{HoldsThese, all_claimed, attaching_left, holds_left, parts_left_so, still_held}
use Rattle.mail_save.proofs.StableRegionLemmas.{file_left, placed_left, region_left, stored_left}

being_left : {D : Type 0} → (theirs : Claims) (name : List ℕ) (time : ℕ) (octets : List ℕ) (parts : SavedParts) (attaching : AttachingValue) (old new : StoreValue D) (before after : Option History) → Beside theirs old new before after → HoldsThese theirs attaching.found → AreBeingAttached name time octets parts attaching old before
    → AreBeingAttached name time octets parts attaching new after
being_left theirs name time octets parts attaching old new before after b own a = record { prepared = a.prepared; form = a.form; parts_are = a.parts_are; laid = a.laid; found = attaching_left theirs attaching old new before after b own a.found }

attached_left : {D : Type 0} → (theirs : Claims) (name : List ℕ) (time : ℕ) (octets : List ℕ) (parts : SavedParts) (old new : StoreValue D) (before after : Option History) → Beside theirs old new before after → HoldsThese theirs parts.rows → AreAttached name time octets parts old before → AreAttached name time octets parts new after
attached_left theirs name time octets parts old new before after b own a =
    record { prepared = a.prepared; form = a.form; laid = a.laid; found = parts_left_so theirs parts.rows a.prepared.parts old new before after b (all_claimed theirs parts.rows own) a.found; one_each = a.one_each }

is_attached_left : {D : Type 0} → (theirs : Claims) (name : List ℕ) (time : ℕ) (parts : SavedParts) (old new : StoreValue D) (before after : Option History) → Beside theirs old new before after → HoldsThese theirs parts.rows → IsAttached name time parts old before → IsAttached name time parts new after
is_attached_left theirs name time parts old new before after b own a = ((a.0.0, a.0.1, attached_left theirs name time a.0.0 parts old new before after b own a.0.2), still_held theirs parts.rows old new before after b own)

own_one : (n : ℕ) → 1 ≤ one_if (n == n)
own_one n = let e : one_if (n == n) ≡ 1 = ap one_if (eq-eqb n n refl) in omega (arith, e)

still_due : {D : Type 0} → (theirs : Claims) (uid : MapUid) (old new : StoreValue D) (before after : Option History) → Beside theirs old new before after → 1 ≤ theirs (Due uid.0) → 1 ≤ due_at uid.0 new
still_due theirs uid old new before after b some = let k = due_left theirs old new before after uid.0 b in omega (arith, k, some)

record_of_guid : {D : Type 0} → (theirs : Claims) (uid : ℕ) (guid : List ℕ) (old new : StoreValue D) (before after : Option History) → Beside theirs old new before after → 1 ≤ theirs (Due uid) → HasRecord old.map uid (λ row. row.guid ≡ guid) → HasRecord new.map uid (λ row. row.guid ≡ guid)
record_of_guid theirs uid guid old new before after b some r = let k = record_left theirs old new before after uid r.0 b some r.1 in (k.now, k.there, ap (λ (x : MapRecord). x.guid) k.is_same ∙ r.2)

-- ---- by stage

pub save_stable : {D : Type 0} → (now : SaveStage) (name : List ℕ) (time size : ℕ) (octets : List ℕ) → IsStable {D = D} (save_claims now) (λ store history. IsReadyToDeliver now name time size octets store history)
save_stable (stage.First prepared) name time size octets old new before after b r = record { kept = r.kept; ready = r.ready }
save_stable (stage.Attaching parts attaching) name time size octets old new before after b r =
    let mine : Claims = save_claims (stage.Attaching parts attaching) in
    let k = r.kept.0 in
    record {
      kept = ((k.0, k.1, being_left mine name time k.0 parts attaching old new before after b (λ id. refl) k.2), r.kept.1);
      ready = (r.ready.0, being_left mine name time octets parts attaching old new before after b (λ id. refl) r.ready.1, r.ready.2);
    }
save_stable (stage.Taking parts) name time size octets old new before after b r =
    let mine : Claims = save_claims (stage.Taking parts) in
    record { kept = is_attached_left mine name time parts old new before after b (λ id. refl) r.kept; ready = (r.ready.0, attached_left mine name time octets parts old new before after b (λ id. refl) r.ready.1) }
save_stable (stage.Placing parts file) name time size octets old new before after b r =
    let mine : Claims = save_claims (stage.Placing parts file) in
    record {
      kept = (is_attached_left mine name time parts old new before after b (λ id. refl) r.kept.0, file_left mine file.0 (length parts.laid.region) old new before after b (own_one file.0) r.kept.1);
      ready = (r.ready.0, attached_left mine name time octets parts old new before after b (λ id. refl) r.ready.1);
    }
save_stable (stage.Storing at rows room) name time size octets old new before after b r =
    let mine : Claims = save_claims (stage.Storing at rows room) in
    record {
      kept = (region_left mine at old new before after b (own_one at.file.0) r.kept.0, r.kept.1, holds_left mine rows old new before after b (λ id. refl) r.kept.2);
      ready = (r.ready.0, placed_left mine at rows name time octets old new before after b (own_one at.file.0) (λ id. refl) r.kept.2.known r.ready.1);
    }
save_stable (stage.Adding added room) name time size octets old new before after b r =
    let mine : Claims = save_claims (stage.Adding added room) in
    record {
      kept = (record_of_guid mine added.map_uid.0 added.guid.0 old new before after b (own_one added.map_uid.0) r.kept.0, still_due mine added.map_uid old new before after b (own_one added.map_uid.0), r.kept.2);
      ready = (r.ready.0, stored_left mine added name time octets old new before after b (own_one added.map_uid.0) r.ready.1);
    }
save_stable (stage.GivingBack uid why room) name time size octets old new before after b r =
    record { kept = (still_due (save_claims (stage.GivingBack uid why room)) uid old new before after b (own_one uid.0), r.kept.1, r.kept.2); ready = r.ready }
save_stable stage.Ended name time size octets old new before after b r = absurd r.kept

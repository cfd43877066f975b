-- Behind each of its events a fetch is ready for the next.
use Rattle.mail_fetch.proofs.Common.{◌≡◌, ◌≤◌, ◌+◌, ◌-◌, ℕ, suc, Bool, true, false, cond, List, [], ◌∷◌, length, map, Option, inl, inr, refl, sym, ◌∙◌, subst, arith, All, filter, All-cons, All-nil, All-head, All-tail, All-weaker, History, Faults, InstRow, IsKnownRow, StoreValue, AreIn, Claims}
use Rattle.mail_fetch.proofs.Common.{MovesClaims, amount_in, no_claims, HasClaimed, IsReadyToFetch, claims_of_pinned, with_claims, IsPieceRead, IsPinned, with_piece, has_octets, instance_part, left_after, parts_to_read, pieces_left, region_part, RegionValue, stored_at, Part, StoredAt, FetchStage}
use Rattle.std.proofs.Common.{zero}
use Rattle.std.proofs.lemmas.List.Elements.{All-map}
use Rattle.store_core.specs.StoreInstances.{HasKnownInstances}
use Rattle.mail_fetch.specs.Claims.{IsClaimedPart, IsClaimedTo, IsReadyToRead}
use Rattle.mail_fetch.specs.Events.{GoesOnWith}
use Rattle.mail_fetch.specs.declared.task.FetchStage.TheVariants as stage
use Rattle.mail_fetch.proofs.ClaimLemmas.{same_amount}
use Rattle.mail_fetch.proofs.HoldLemmas.{rows_held}
use Rattle.mail_fetch.proofs.InstanceLemmas.{named_each, parts_known}
use Rattle.mail_fetch.proofs.PartLemmas.{each_after, known_after}
use Rattle.mail_fetch.proofs.StableLemmas.{own_holds}

kept : (P : Part → Type 0) (ps : List Part) → All P ps → All P (filter has_octets ps)
kept P [] h = All-nil P
kept P (p ∷ ps) h = by_test (has_octets p) (kept P ps (All-tail P p ps h))
  where
    by_test : (t : Bool) → All P (filter has_octets ps) → All P (cond t (p ∷ filter has_octets ps) (filter has_octets ps))
    by_test true rest = All-cons P p (filter has_octets ps) (All-head P p ps h) rest
    by_test false rest = rest

-- the parts of a message are of its file, and of its instances
all_claimed : (from : StoredAt) → All (IsClaimedPart from) (parts_to_read from)
all_claimed from =
    kept (IsClaimedPart from) (region_part from ∷ map instance_part from.instances)
    (All-cons (IsClaimedPart from) (region_part from) (map instance_part from.instances) (refl, omega arith) (All-map (IsClaimedPart from) instance_part from.instances (own_holds from.instances)))

-- and so is what is left of them behind a piece
left_claimed : (from : StoredAt) (parts : List Part) → All (IsClaimedPart from) parts → All (IsClaimedPart from) (left_after parts)
left_claimed from parts each =
    each_after (IsClaimedPart from) parts (λ p more h. let e : p.offset + p.size ≡ (p.offset + 65536) + (p.size - 65536) = omega (arith, more) in subst (λ (end : ℕ). IsClaimedTo from end p.source) e h) each

-- what a task has just begun to claim is among what all tasks do
claimed_now : {D : Type 0} → (mine : Claims) (old new : StoreValue D) → MovesClaims no_claims mine old new → AreIn new mine
claimed_now mine old new moves thing = let m : amount_in thing new + 0 ≡ amount_in thing old + mine thing = moves thing in omega (arith, m)

-- behind the first event
pub pinned_ready : {D : Type 0} → (history : Option History) (name : List ℕ) (uid : ℕ) (old new : StoreValue D) (region : RegionValue) → HasKnownInstances history old → new ≡ with_claims region.from old → MovesClaims no_claims (claims_of_pinned region.from) old new → length region.from.instances ≤ 65535 → IsPinned name uid old region
    → IsReadyToRead region new
pinned_ready history name uid old new region k same moves few (row, entry, stored, is) =
    let keeps : (r : InstRow) → IsKnownRow old.instances.known r → IsKnownRow new.instances.known r = λ r there. subst (λ (s : StoreValue _). IsKnownRow s.instances.known r) (sym same) (rows_held region.from.instances r.id old.instances.known ∙ there) in
    let named : All (IsKnownRow new.instances.known) entry.instances = All-weaker (IsKnownRow old.instances.known) (IsKnownRow new.instances.known) keeps entry.instances (named_each (IsKnownRow old.instances.known) old.map row.map_uid entry stored.stored k.kept.named) in
    subst (λ (r : RegionValue). MovesClaims no_claims (claims_of_pinned r.from) old new → length r.from.instances ≤ 65535 → IsReadyToRead r new) (sym is)
    (λ m most. record { parts = all_claimed (stored_at row entry); left = parts_known new.instances.known row entry named; own = record { claimed = claimed_now (claims_of_pinned (stored_at row entry)) old new m; known = named; few = most } }) moves few

-- behind a piece
goes_ready : {D : Type 0} → (region : RegionValue) (piece : List ℕ) (next : FetchStage) (store : StoreValue D) → IsReadyToRead region store → GoesOnWith (with_piece region piece) next → IsReadyToFetch next store
goes_ready region piece next store ready goes = by_left (pieces_left (left_after region.left)) refl
  where
    by_left : (n : ℕ) → pieces_left (left_after region.left) ≡ n → IsReadyToFetch next store
    by_left zero e = let l = goes.last e in subst (λ (s : FetchStage). IsReadyToFetch s store) (sym l.1) ready.own
    by_left (suc n) e =
        subst (λ (s : FetchStage). IsReadyToFetch s store) (sym (goes.more (omega (arith, e))))
        (record { parts = left_claimed region.from region.left ready.parts; left = known_after store.instances.known region.left ready.left; own = ready.own })

read_ready : {D : Type 0} → (region : RegionValue) (next : FetchStage) (store : StoreValue D) (history : Option History) (old new : Faults) → IsReadyToRead region store → IsPieceRead region next history old new → IsReadyToFetch next store
read_ready region next store history old new ready (inl (piece, told, goes)) = goes_ready region piece next store ready goes
read_ready region next store history old new ready (inr failed) = subst (λ (s : FetchStage). IsReadyToFetch s store) (sym failed.1) ready.own

-- on another disk
own_at : {D : Type 0} → (from : StoredAt) (store : StoreValue D) (disk : D) → HasClaimed from store → HasClaimed from (record store { disk = disk })
own_at from store disk own = record { claimed = λ thing. subst (λ (n : ℕ). claims_of_pinned from thing ≤ n) (sym (same_amount store disk thing)) (own.claimed thing); known = own.known; few = own.few }

at_disk : {D : Type 0} → (now : FetchStage) (store : StoreValue D) (disk : D) → IsReadyToFetch now store → IsReadyToFetch now (record store { disk = disk })
at_disk stage.First store disk ready = tt
at_disk (stage.Reading region) store disk ready = record {
  parts = ready.parts;
  left = ready.left;
  own = own_at region.from store disk ready.own;
}
at_disk (stage.Unpinning from given) store disk ready = own_at from store disk ready
at_disk (stage.Removing file given) store disk ready = record { doomed = ready.doomed; unpinned = ready.unpinned; elsewhere = ready.elsewhere }

pub ready_on : {D : Type 0} → (region : RegionValue) (next : FetchStage) (old new : StoreValue D) (history : Option History) (began faults : Faults) → new ≡ record old { disk = new.disk } → IsPieceRead region next history began faults → IsReadyToRead region old → IsReadyToFetch next new
ready_on region next old new history began faults same read ready =
    subst (λ (s : StoreValue _). IsReadyToFetch next s) (sym same) (at_disk next old new.disk (read_ready region next old history began faults ready read))

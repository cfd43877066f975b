-- An event of a fetch moves no claims and leaves the others what is theirs, and a fetch that was replied claims nothing.
use Rattle.mail_fetch.proofs.Common.{◌≡◌, ℕ, Bool, true, false, List, Option, Some, None, inl, inr, refl, sym, ◌∙◌, ap, subst, arith, DiskState, History, IsIdle, Progress, Refusal, Reply, StoreValue, Claims, Due, Emptied, Held, Made, Pinned, PlacingPieces, Removing, Taken, Thing, amount_in}
use Rattle.mail_fetch.proofs.Common.{IsSameOrSynced, LeavesOthers, unraised_same, fetch_claims, IsBegun, fetch_refusal, FetchStage}
use Rattle.disk_model.specs.declared.name.FileName.TheVariants as file
use Rattle.disk_model.proofs.BetweenLemmas.{between-map}
use Rattle.mdbox_base.specs.declared.progress.Progress.TheVariants as progress
use Rattle.task_claims.specs.Claims.{ClaimsNothing}
use Rattle.task_claims.specs.Leaving.{SyncsMail}
use Rattle.task_claims.proofs.GoneLemmas.{gone_stays}
use Rattle.task_claims.proofs.RestLemmas.{rest_leaves}
use Rattle.mail_fetch.specs.declared.task.FetchStage.TheVariants as stage

-- nothing but the device has changed
pub same_amount : {D : Type 0} → (store : StoreValue D) (disk : D) (thing : Thing) → amount_in thing (record store { disk = disk }) ≡ amount_in thing store
same_amount store disk (Due uid) = refl
same_amount store disk (Pinned file) = refl
same_amount store disk (Taken file) = refl
same_amount store disk (Emptied file) = refl
same_amount store disk (PlacingPieces file) = refl
same_amount store disk (Removing file) = refl
same_amount store disk (Held id) = refl
same_amount store disk (Made number) = refl

-- An event that reads moves no claims, and leaves the others what is theirs.
pub reading_moves : {D : Type 0} → (old new : StoreValue D) → new ≡ record old { disk = new.disk } → (thing : Thing) → amount_in thing new ≡ amount_in thing old
reading_moves old new same thing = ap (λ (s : StoreValue _). amount_in thing s) same ∙ same_amount old new.disk thing

abbrev Synced : DiskState → DiskState → Type 0
Synced a b = ((number : ℕ) → IsSameOrSynced (a (file.Mail number)) (b (file.Mail number))) × ((hash id : List ℕ) → IsSameOrSynced (a (file.Inst hash id)) (b (file.Inst hash id)))

pub idle_syncs : (before after : Option History) → IsIdle before after → SyncsMail before after
idle_syncs before after idle =
    between-map (λ a b. b ≡ a) Synced before after (λ a b e. ((λ number. inl (ap (λ (d : DiskState). d (file.Mail number)) e)), (λ hash id. inl (ap (λ (d : DiskState). d (file.Inst hash id)) e)))) idle.same

pub reading_leaves : {D : Type 0} → (old new : StoreValue D) (before after : Option History) → new ≡ record old { disk = new.disk } → IsIdle before after → (mine : Claims) → LeavesOthers mine old new before after
reading_leaves old new before after same idle mine =
    subst (λ (s : StoreValue _). LeavesOthers mine old s before after) (sym same)
    (rest_leaves mine old (record old { disk = new.disk }) before after refl refl (idle_syncs before after idle) refl (unraised_same old.map old.map refl) (omega arith) (omega arith) (inl (λ name number is. is)) (gone_stays old (record old { disk = new.disk }) refl refl (omega arith)) (λ number uid held k. record { given = k.given; below = k.below; same = k.same }) (omega arith) (λ uid row none found listed. (listed, refl)))

pub first_claims : (now : FetchStage) → now ≡ stage.First → ClaimsNothing (fetch_claims now)
first_claims now is = subst (λ (s : FetchStage). ClaimsNothing (fetch_claims s)) (sym is) (λ thing. refl)

-- A first event that replies begins anew.
pub begun_ended : {D : Type 0} → (name : List ℕ) (uid : ℕ) (store : StoreValue D) (next : FetchStage) (answer : Progress) (given : Reply) → IsBegun name uid store next answer → answer ≡ progress.Done given → ClaimsNothing (fetch_claims next)
begun_ended name uid store next answer given b done = by_why (fetch_refusal name uid store) refl
  where
    by_why : (why : Option Refusal) → fetch_refusal name uid store ≡ why → ClaimsNothing (fetch_claims next)
    by_why (Some why) is = first_claims next (b.refused why is).1
    by_why None is = elim (b.begun is) [
      | inl more ↦ absurd (let k : progress.More ≡ progress.Done given = sym more.0 ∙ done in cc k)
      | inr none ↦ first_claims next none.3
    ]

pub more_is : (given : Reply) → progress.More ≡ progress.Done given → ⊥
more_is given e = cc e

pub fall : (b : Bool) → b ≡ true → b ≡ false → ⊥
fall b t f = let k : true ≡ false = sym t ∙ f in cc k

-- How many parts of a message a delivery detaches.
use Rattle.mail_save.proofs.Common.{◌≡◌, ℕ, List, [], ◌∷◌, length, Option, refl, sym, ◌∙◌, ap, filter, IsPrepared, Prepared, History, parts_in, StoreValue, IsReadyToSave, HasItsParts, SaveStage}
use Rattle.std.proofs.Common.{suc}
use Rattle.std.specs.Prelude.{map}
use Rattle.std.proofs.lemmas.List.{length-map}
use Rattle.attach_detach.specs.Prepared.{piece_of}
use Rattle.model_attach.specs.Detached.{AreCut, Piece}
use Rattle.model_mime.specs.declared.mime.Part.{Part}
use Rattle.mail_save.specs.SaveSeen.{count_detachable}
use Rattle.mail_save.specs.declared.task.SaveStage.TheVariants as stage

-- a piece is cut out for each part
one_each : (message : List ℕ) (at : ℕ) (parts : List Part) (pieces : List Piece) (body : List ℕ) → AreCut message at parts pieces body → length pieces ≡ length parts
one_each message at [] [] body cut = refl
one_each message at [] (piece ∷ pieces) body cut = absurd cut
one_each message at (part ∷ parts) [] body cut = absurd cut
one_each message at (part ∷ parts) (piece ∷ pieces) body cut = ap suc (one_each message part.end parts pieces cut.0 cut.5)

pub prepared_parts : (octets : List ℕ) (prepared : Prepared) → IsPrepared octets prepared → length prepared.parts ≡ count_detachable octets
prepared_parts octets prepared form = sym (length-map prepared.parts piece_of) ∙ one_each octets 0 (filter (λ part. part.detachable) (parts_in octets)) (map piece_of prepared.parts) prepared.body form.detached

pub ready_has_parts : {D : Type 0} → (now : SaveStage) (name : List ℕ) (time size : ℕ) (octets : List ℕ) (store : StoreValue D) (history : Option History) → IsReadyToSave now name time size octets store history → HasItsParts now octets
ready_has_parts (stage.First prepared) name time size octets store history ready = tt
ready_has_parts (stage.Attaching parts attaching) name time size octets store history ready = let r = ready.1 in (ap length r.parts_are ∙ prepared_parts octets r.prepared r.form, ready.2)
ready_has_parts (stage.Taking parts) name time size octets store history ready = let r = ready.1 in r.one_each ∙ prepared_parts octets r.prepared r.form
ready_has_parts (stage.Placing parts file) name time size octets store history ready = tt
ready_has_parts (stage.Storing at rows room) name time size octets store history ready = tt
ready_has_parts (stage.Adding added room) name time size octets store history ready = tt
ready_has_parts (stage.GivingBack uid why room) name time size octets store history ready = tt
ready_has_parts stage.Ended name time size octets store history ready = tt

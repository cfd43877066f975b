-- What a delivery has laid out and found of a message, by the message's detached form.
use Rattle.std.specs.Prelude.{◌≡◌, ◌+◌, ℕ, All, List, [], ◌∷◌, ◌++◌, length, Option}
use Rattle.std.proofs.Common.{refl, ◌∙◌, ap, subst, arith}
use Rattle.std.proofs.lemmas.List.{length-append}
use Rattle.std.proofs.lemmas.List.Elements.{All-head, All-tail}
use Rattle.attach_detach.specs.Prepared.{IsPrepared}
use Rattle.attach_detach.specs.declared.message.Detached.{Detached}
use Rattle.attach_detach.specs.declared.message.Prepared.{Prepared}
use Rattle.disk_model.specs.Disk.{History, IfTold}
use Rattle.disk_model.proofs.MomentLemmas.{if_told-map}
use Rattle.mdbox_base.specs.declared.entries.InstRow.{InstRow}
use Rattle.mdbox_base.specs.declared.ids.InstId.{InstId}
use Rattle.mdbox_base.specs.declared.ids.MapUid.{MapUid}
use Rattle.model_storage.specs.References.{reference_text}
use Rattle.model_store.specs.Settled.{files_of}
use Rattle.model_store.specs.Stands.{HasInstances}
use Rattle.save_instances.specs.Attaching.{AreOfParts, AttachingValue}
use Rattle.saved_message.specs.Laid.{AreSixteen, IsLaid, LaidValue}
use Rattle.saved_message.specs.References.{marked}
use Rattle.saved_message.specs.Region.{reference_to, references_naming, unknown_guid, unknown_id, unknown_ids, written_region}
use Rattle.saved_message.specs.Saved.{AreInstancesOf, HasWritten, ids_in}
use Rattle.saved_message.proofs.PreparedLemmas.{prepared_same}
use Rattle.saved_message.proofs.ReferenceLemmas.{unknown_one_each, zeros_are_sixteen}
use Rattle.saved_message.proofs.RegionLemmas.{after_references, before_references, reference_long, region_marked}
use Rattle.sis_store.specs.declared.instance.KnownInstance.{KnownInstance}
use Rattle.store_core.specs.Value.{StoreValue}
use Rattle.mail_save.specs.Parts.{AreAttached, AreBeingAttached, AreLaidOut}
use Rattle.mail_save.specs.Ready.{IsPlacedReady}
use Rattle.mail_save.specs.SaveEffects.{saved_row}
use Rattle.mail_save.specs.declared.first.SavedParts.{SavedParts}
use Rattle.mail_save.specs.declared.place.SavedAt.{SavedAt}
use Rattle.tasks_alone.specs.DeliveryAlone.{attachment_octets, region_length}

-- ---- the length of the region

-- references have the same length, whatever ids they name
marked_long : (mark : ℕ) (parts : List Detached) (ids : List InstId) → length ids ≡ length parts → All (λ id. AreSixteen id.0) ids → length (marked mark (references_naming parts ids)) ≡ length (marked mark (references_naming parts (unknown_ids parts)))
marked_long mark [] ids many fit = refl
marked_long mark (d ∷ parts) [] many fit = absurd (omega (arith, many))
marked_long mark (d ∷ parts) (id ∷ ids) many fit =
    let a = length-append (reference_text (reference_to d id)) (marked 32 (references_naming parts ids)) in
    let b = length-append (reference_text (reference_to d unknown_id)) (marked 32 (references_naming parts (unknown_ids parts))) in
    let c = reference_long d id (All-head (λ (i : InstId). AreSixteen i.0) id ids fit) in
    let e = reference_long d unknown_id zeros_are_sixteen in
    let r = marked_long 32 parts ids (omega (arith, many)) (All-tail (λ (i : InstId). AreSixteen i.0) id ids fit) in
    omega (arith, a, b, c, e, r)

region_long : (name : List ℕ) (time : ℕ) (p : Prepared) (ids : List InstId) (guid : List ℕ) → length ids ≡ length p.parts
    → length (written_region name time p ids guid) ≡ length (before_references name time p guid) + (length (marked 88 (references_naming p.parts ids)) + length (after_references p.parts))
region_long name time p ids guid many =
    ap length (region_marked name time p ids guid many)
    ∙ (length-append (before_references name time p guid) (marked 88 (references_naming p.parts ids) ++ after_references p.parts)
    ∙ ap (λ (n : ℕ). length (before_references name time p guid) + n) (length-append (marked 88 (references_naming p.parts ids)) (after_references p.parts)))

pub laid_sized : (name : List ℕ) (time : ℕ) (p : Prepared) (ids : List InstId) (laid : LaidValue) → IsLaid name time p ids unknown_guid laid → length laid.region ≡ region_length name time p
laid_sized name time p ids laid is =
    let a : length laid.region ≡ length (written_region name time p ids unknown_guid) = ap length is.region in
    let b = region_long name time p ids unknown_guid is.one_each in
    let c = region_long name time p (unknown_ids p.parts) unknown_guid (unknown_one_each p.parts) in
    let d = marked_long 88 p.parts ids is.one_each is.ids_fit in
    omega (arith, a, b, c, d)

-- ---- by the message's detached form

of_parts : (rows : List InstRow) (parts : List Detached) (known : List KnownInstance) (history : Option History) → AreOfParts rows parts known history → length rows ≡ length parts → AreInstancesOf parts rows
of_parts [] [] known history h many = tt
of_parts [] (part ∷ parts) known history h many = absurd (omega (arith, many))
of_parts (row ∷ rows) [] known history h many = absurd h
of_parts (row ∷ rows) (part ∷ parts) known history h many = (h.0.hash, of_parts rows parts known history h.1 (omega (arith, many)))

-- The message is laid out with the ids of its instances, one for each attachment.
pub record AttachedAs (name : List ℕ) (time : ℕ) (prepared : Prepared) (parts : SavedParts) : Type 0 where
  pub laid : AreLaidOut name time prepared (ids_in parts.rows) parts
  pub sized : length parts.laid.region ≡ region_length name time prepared
  pub rows : AreInstancesOf prepared.parts parts.rows

pub attached_as : {D : Type 0} → (name : List ℕ) (time : ℕ) (octets : List ℕ) (prepared : Prepared) (parts : SavedParts) (s : StoreValue D) (history : Option History) → IsPrepared octets prepared → AreAttached name time octets parts s history → AttachedAs name time prepared parts
attached_as name time octets prepared parts s history form a =
    subst (λ (p : Prepared). AttachedAs name time p parts) (prepared_same octets a.prepared prepared a.form form) (record {
      laid = a.laid;
      sized = laid_sized name time a.prepared (ids_in parts.rows) parts.laid a.laid.laid;
      rows = of_parts parts.rows a.prepared.parts s.instances.known history a.found a.one_each;
    })

pub attaching_parts : {D : Type 0} → (name : List ℕ) (time : ℕ) (octets : List ℕ) (prepared : Prepared) (parts : SavedParts) (attaching : AttachingValue) (s : StoreValue D) (history : Option History) → IsPrepared octets prepared → AreBeingAttached name time octets parts attaching s history
    → attaching.parts ≡ prepared.parts
attaching_parts name time octets prepared parts attaching s history form a = a.parts_are ∙ ap (λ (p : Prepared). p.parts) (prepared_same octets a.prepared prepared a.form form)

-- the instances of a region that is ready have the octets of the attachments
pub ready_instances : (at : SavedAt) (rows : List InstRow) (name : List ℕ) (time : ℕ) (octets : List ℕ) (prepared : Prepared) (history : Option History) → IsPrepared octets prepared → IsPlacedReady at rows name time octets history
    → IfTold history (λ now. HasInstances (files_of now) rows (attachment_octets prepared.parts))
ready_instances at rows name time octets prepared history form r =
    if_told-map (λ now. HasWritten (files_of now) (saved_row rows any at) name time r.prepared) (λ now. HasInstances (files_of now) rows (attachment_octets prepared.parts)) history
    (λ now w. subst (λ (p : Prepared). HasInstances (files_of now) rows (attachment_octets p.parts)) (prepared_same octets r.prepared prepared r.can.form form) w.octets) (r.written any)
  where
    any : MapUid
    any = record { 0 = 1 }

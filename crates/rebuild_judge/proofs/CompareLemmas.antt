-- A message's whole, read again from its region.
use Rattle.std.proofs.Common.{◌≡◌, ◌≤◌, ◌-◌, ◌⊎◌, ℕ, List, [], length, map, take, drop, sym, ◌∙◌, ap, subst, arith, append-nil, inl, inr, Option, Some, None, Err}
use Rattle.std.specs.Option.{option_map}
use Rattle.std.specs.Prelude.{flat_map}
use Rattle.disk_model.specs.Disk.{DiskState, reading}
use Rattle.disk_model.specs.declared.name.FileName.TheVariants as file
use Rattle.mdbox_base.specs.declared.metadata.ExtRef.{ExtRef}
use Rattle.model_attach.proofs.RejoinedLemmas.{whole_same}
use Rattle.model_attach.specs.Rejoined.{IsWhole, join_error}
use Rattle.model_attach.specs.declared.join_error.JoinError.{JoinError}
use Rattle.model_attach.specs.declared.join_error.JoinError.TheVariants as join
use Rattle.model_storage.proofs.MetadataLemmas.{metadata_same}
use Rattle.model_storage.specs.declared.metadata_value.Metadata.{Metadata}
use Rattle.model_storage.specs.declared.places.MessageAt.{MessageAt}
use Rattle.model_storage.specs.declared.places.PlaceError.{PlaceError}
use Rattle.model_storage.specs.declared.places.PlaceError.TheVariants as at
use Rattle.model_storage.specs.StorageFile.{IsMessage, Message, PlaceGives, StandsAt, StandsNone, line_text}
use Rattle.model_store.specs.Settled.{files_of}
use Rattle.model_store.specs.Stands.{whole_size}
use Rattle.model_taken.proofs.FewLemmas.{few_references}
use Rattle.model_taken.specs.NamedInstances.{InstanceFound, instances_there}
use Rattle.rebuild_judge.proofs.LineLemmas.{text_says}
use Rattle.rebuild_judge.proofs.RegionLemmas.{body_in, lines_in, only_message}
use Rattle.rebuild_judge.specs.Reading.{AreOctetsOn, HasMessageAt, HasWholeOn, IsRejoinedAs, RejoinsTo, TextSays}
use Rattle.storage_files.specs.OnDisk.{piece_read}

-- ---- its region

region_is : (number offset size : ℕ) (region text : List ℕ) (disk : DiskState) → region ≡ piece_read offset size (reading (disk (file.Mail number))) → (r : RejoinsTo (files_of disk) number offset size text) → IsMessage region r.message
region_is number offset size region text disk read r = subst (λ (xs : List ℕ). IsMessage xs r.message) (sym (read ∙ ap (piece_read offset size) r.there)) r.region

-- no message stands there
pub no_region : (number offset size : ℕ) (region : List ℕ) (disk : DiskState) → region ≡ piece_read offset size (reading (disk (file.Mail number))) → ((m : Message) → IsMessage region m → ⊥) → HasWholeOn number offset size None disk
no_region number offset size region disk read none text r = absurd (none r.message (region_is number offset size region text disk read r))

none_begins : (region : List ℕ) (error : PlaceError) → PlaceGives region 0 (Err error) → StandsNone region 0
none_begins region (at.Truncated n) gives = gives.1
none_begins region (at.BadMessage n) gives = gives.1

pub none_stands : (region : List ℕ) (error : PlaceError) → PlaceGives region 0 (Err error) → (m : Message) → IsMessage region m → ⊥
none_stands region error gives m is = none_begins region error gives (region, [], m, sym (append-nil region), is)

-- the message that stands at its beginning, if it is all of it
here : (number offset size : ℕ) (region text : List ℕ) (place : MessageAt) (disk : DiskState) → region ≡ piece_read offset size (reading (disk (file.Mail number))) → StandsAt region 0 place → (r : RejoinsTo (files_of disk) number offset size text) → HasMessageAt region place r.message
here number offset size region text place disk read stands r = only_message region place r.message stands (region_is number offset size region text disk read r)

-- ---- its lines

lines_here : (number offset size n : ℕ) (region text lines : List ℕ) (place : MessageAt) (disk : DiskState) → region ≡ piece_read offset size (reading (disk (file.Mail number))) → StandsAt region 0 place → n ≡ place.end - place.lines - 1 → lines ≡ take n (drop place.lines region)
    → (r : RejoinsTo (files_of disk) number offset size text) → lines ≡ flat_map line_text r.message.lines
lines_here number offset size n region text lines place disk read stands sized is r =
    is ∙ (ap (λ (k : ℕ). take k (drop place.lines region)) sized ∙ lines_in region place r.message (here number offset size region text place disk read stands r))

pub bad_lines : (number offset size n : ℕ) (region lines : List ℕ) (place : MessageAt) (disk : DiskState) → region ≡ piece_read offset size (reading (disk (file.Mail number))) → StandsAt region 0 place → n ≡ place.end - place.lines - 1 → lines ≡ take n (drop place.lines region)
    → TextSays lines None → HasWholeOn number offset size None disk
bad_lines number offset size n region lines place disk read stands sized is none text r =
    absurd (text_says region place r.message lines None (here number offset size region text place disk read stands r) (lines_here number offset size n region text lines place disk read stands sized is r) none r.meta r.says)

-- what they say is what is meant
same_meta : (number offset size n : ℕ) (region text lines : List ℕ) (place : MessageAt) (meta : Metadata) (disk : DiskState) → region ≡ piece_read offset size (reading (disk (file.Mail number))) → StandsAt region 0 place → n ≡ place.end - place.lines - 1 → lines ≡ take n (drop place.lines region)
    → TextSays lines (Some meta) → (r : RejoinsTo (files_of disk) number offset size text) → r.meta ≡ meta
same_meta number offset size n region text lines place meta disk read stands sized is says r =
    metadata_same r.message.lines r.meta meta r.says (text_says region place r.message lines (Some meta) (here number offset size region text place disk read stands r) (lines_here number offset size n region text lines place disk read stands sized is r) says)

-- ---- its instances, its references, its body

-- what is read of a region: the place at its beginning, and its metadata
pub record HasRead (number offset size : ℕ) (region : List ℕ) (place : MessageAt) (meta : Metadata) (disk : DiskState) : Type 0 where
  pub lines : List ℕ
  pub n : ℕ
  pub read : region ≡ piece_read offset size (reading (disk (file.Mail number)))
  pub stands : StandsAt region 0 place
  pub sized : n ≡ place.end - place.lines - 1
  pub lines_are : lines ≡ take n (drop place.lines region)
  pub says : TextSays lines (Some meta)

meta_is : (number offset size : ℕ) (region text : List ℕ) (place : MessageAt) (meta : Metadata) (disk : DiskState) → (h : HasRead number offset size region place meta disk) → (r : RejoinsTo (files_of disk) number offset size text) → r.meta ≡ meta
meta_is number offset size region text place meta disk h r = same_meta number offset size h.n region text h.lines place meta disk h.read h.stands h.sized h.lines_are h.says r

octets_are : (octets : Option (List (List ℕ))) (refs : List ExtRef) (found : List InstanceFound) (disk : DiskState) → AreOctetsOn refs octets disk → instances_there (files_of disk) refs ≡ Some found → octets ≡ Some (map (λ i. i.octets) found)
octets_are octets refs found disk are e = are ∙ ap (option_map (map (λ (i : InstanceFound). i.octets))) e

pub gone_instances : (number offset size : ℕ) (region : List ℕ) (place : MessageAt) (meta : Metadata) (disk : DiskState) → HasRead number offset size region place meta disk → AreOctetsOn meta.refs None disk → HasWholeOn number offset size None disk
gone_instances number offset size region place meta disk h none text r =
    let there = ap (λ (x : Metadata). instances_there (files_of disk) x.refs) (sym (meta_is number offset size region text place meta disk h r)) ∙ r.instances in
    absurd (let e = octets_are None meta.refs r.found disk none there in cc e)

pub too_many : (number offset size : ℕ) (region : List ℕ) (place : MessageAt) (meta : Metadata) (disk : DiskState) → HasRead number offset size region place meta disk → 4294967296 ≤ length meta.refs → HasWholeOn number offset size None disk
too_many number offset size region place meta disk h many text r =
    let few = few_references region r.message r.meta (region_is number offset size region text disk h.read r) r.says in
    let same = ap (λ (x : Metadata). length x.refs) (meta_is number offset size region text place meta disk h r) in
    absurd (omega (arith, few, same, many))

pub rejoined_as : (number offset size : ℕ) (region body : List ℕ) (place : MessageAt) (meta : Metadata) (instances : List (List ℕ)) (found : Option (List ℕ)) (disk : DiskState) → HasRead number offset size region place meta disk → AreOctetsOn meta.refs (Some instances) disk
    → body ≡ take place.size (drop place.body region) → IsRejoinedAs body meta instances found → HasWholeOn number offset size found disk
rejoined_as number offset size region body place meta instances found disk h are is rejoined text r =
    let same = meta_is number offset size region text place meta disk h r in
    let there = ap (λ (x : Metadata). instances_there (files_of disk) x.refs) (sym same) ∙ r.instances in
    let octets : instances ≡ map (λ (i : InstanceFound). i.octets) r.found = (let e = octets_are (Some instances) meta.refs r.found disk are there in cc e) in
    let whole_body : body ≡ r.message.body = is ∙ body_in region place r.message (here number offset size region text place disk h.read h.stands r) in
    let right : join_error body (whole_size meta body) meta.refs instances ≡ None = rw (whole_body, octets, sym same) r.right in
    let whole : IsWhole text body meta.refs instances = rw (whole_body, octets, sym same) r.is_whole in
    rejoined text right whole

-- ---- joining

pub some_rejoined : (body octets : List ℕ) (meta : Metadata) (instances : List (List ℕ)) → IsWhole octets body meta.refs instances → IsRejoinedAs body meta instances (Some octets)
some_rejoined body octets meta instances is text right whole = ap (λ (x : List ℕ). Some x) (whole_same 0 octets text body meta.refs instances is whole)

pub none_rejoined : (body : List ℕ) (meta : Metadata) (instances : List (List ℕ)) (n : ℕ) (error : JoinError) → n ≡ whole_size meta body → (error ≡ join.NoMemory) ⊎ (join_error body n meta.refs instances ≡ Some error) → (error ≡ join.NoMemory → ⊥) → IsRejoinedAs body meta instances None
none_rejoined body meta instances n error sized (inl e) other text right whole = absurd (other e)
none_rejoined body meta instances n error sized (inr e) other text right whole =
    absurd (let w : Some error ≡ None = sym e ∙ (ap (λ (k : ℕ). join_error body k meta.refs instances) sized ∙ right) in cc w)

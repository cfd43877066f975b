-- Instances that were found of a message's attachments.
use Rattle.std.proofs.Common.{◌≡◌, ◌≤◌, ◌+◌, ℕ, cond, List, [], ◌∷◌, ◌++◌, length, map, take, Option, Some, None, All, refl, subst, arith}
use Rattle.std.specs.Prelude.{slice_get}
use Rattle.std.specs.Str.{bytes_eq}
use Rattle.std.proofs.lemmas.List.Elements.{All-nil, All-cons}
use Rattle.std.proofs.lemmas.List.Sums.{count_by-le-length, sum_by-append, sum_by-cons}
use Rattle.attach_detach.specs.declared.message.Detached.{Detached}
use Rattle.disk_model.specs.Disk.{History, IfTold}
use Rattle.disk_model.proofs.MomentLemmas.{if_told-all, if_told-both}
use Rattle.mdbox_base.specs.declared.entries.InstRow.{InstRow}
use Rattle.mdbox_base.specs.declared.ids.InstId.{InstId}
use Rattle.model_store.specs.Settled.{files_of}
use Rattle.model_store.specs.Stands.{HasInstances}
use Rattle.sis_store.specs.Instances.{holders_in}
use Rattle.sis_store.specs.OnDisk.{instance_file}
use Rattle.sis_store.specs.declared.instance.KnownInstance.{KnownInstance}
use Rattle.store_core.specs.Keeping.{KeepsInstances, MovesHolds, holds_of}
use Rattle.store_core.specs.StoreInstances.{IsFirstKnown, IsKnownRow}
use Rattle.store_core.specs.Value.{StoreValue}
use Rattle.store_core.proofs.InstanceKeepingLemmas.{found_kept}
use Rattle.save_instances.specs.Attaching.{AreOfParts, IsOfPart}

-- ---- they stay so

pub of_part_kept : {D : Type 0} → (row : InstRow) (part : Detached) (old new : StoreValue D) (before after : Option History) → KeepsInstances old new before after → IsOfPart row part old.instances.known before → IsOfPart row part new.instances.known after
of_part_kept row part old new before after keeps is = record { hash = is.hash; size = is.size; first = found_kept old new before after part.octets row keeps is.first }

pub of_parts_kept : {D : Type 0} → (rows : List InstRow) (parts : List Detached) (old new : StoreValue D) (before after : Option History) → KeepsInstances old new before after → AreOfParts rows parts old.instances.known before → AreOfParts rows parts new.instances.known after
of_parts_kept [] parts old new before after keeps are = tt
of_parts_kept (row ∷ rows) [] old new before after keeps are = absurd are
of_parts_kept (row ∷ rows) (part ∷ parts) old new before after keeps are = (of_part_kept row part old new before after keeps are.0, of_parts_kept rows parts old new before after keeps are.1)

-- with one more
pub of_parts_more : (rows : List InstRow) (parts : List Detached) (row : InstRow) (part : Detached) (known : List KnownInstance) (history : Option History) → slice_get parts (length rows) ≡ Some part → IsOfPart row part known history → AreOfParts rows parts known history → AreOfParts (rows ++ row ∷ []) parts known history
of_parts_more [] [] row part known history next is are = absurd (let w : None ≡ Some part = next in cc w)
of_parts_more [] (p ∷ parts) row part known history next is are =
    let same : part ≡ p = (let w : Some p ≡ Some part = next in cc w) in
    (subst (λ (q : Detached). IsOfPart row q known history) same is, tt)
of_parts_more (r ∷ rows) [] row part known history next is are = absurd are
of_parts_more (r ∷ rows) (p ∷ parts) row part known history next is are = (are.0, of_parts_more rows parts row part known history next is are.1)

-- ---- what an entry may name

pub rows_known : (rows : List InstRow) (parts : List Detached) (known : List KnownInstance) (history : Option History) → AreOfParts rows parts known history → All (IsKnownRow known) rows
rows_known [] parts known history are = All-nil (IsKnownRow known)
rows_known (row ∷ rows) [] known history are = absurd are
rows_known (row ∷ rows) (part ∷ parts) known history are = All-cons (IsKnownRow known) row rows are.0.first.is_known (rows_known rows parts known history are.1)

pub rows_first : (rows : List InstRow) (parts : List Detached) (known : List KnownInstance) (history : Option History) → AreOfParts rows parts known history → IfTold history (λ now. All (IsFirstKnown known now) rows)
rows_first [] parts known history are = if_told-all (λ now. All (IsFirstKnown known now) []) history (λ disk. All-nil (IsFirstKnown known disk))
rows_first (row ∷ rows) [] known history are = absurd are
rows_first (row ∷ rows) (part ∷ parts) known history are =
    if_told-both (λ now. IsFirstKnown known now row) (λ now. All (IsFirstKnown known now) rows) (λ now. All (IsFirstKnown known now) (row ∷ rows)) history (λ disk f rest. All-cons (IsFirstKnown known disk) row rows f rest) are.0.first.first (rows_first rows parts known history are.1)

abbrev octets_of : List Detached → List (List ℕ)
octets_of parts = map (λ (part : Detached). part.octets) parts

pub rows_there : (rows : List InstRow) (parts : List Detached) (known : List KnownInstance) (history : Option History) → AreOfParts rows parts known history → IfTold history (λ now. HasInstances (files_of now) rows (map (λ part. part.octets) (take (length rows) parts)))
rows_there [] parts known history are = if_told-all (λ now. HasInstances (files_of now) [] (octets_of (take 0 parts))) history (λ disk. tt)
rows_there (row ∷ rows) [] known history are = absurd are
rows_there (row ∷ rows) (part ∷ parts) known history are =
    if_told-both (λ now. files_of now (instance_file row) ≡ Some part.octets) (λ now. HasInstances (files_of now) rows (octets_of (take (length rows) parts))) (λ now. HasInstances (files_of now) (row ∷ rows) (octets_of (take (length (row ∷ rows)) (part ∷ parts)))) history
    (λ disk f rest. (f, rest)) are.0.first.reads (rows_there rows parts known history are.1)

-- ---- how often they are held

abbrev one_of : InstId → InstRow → ℕ
one_of id row = cond (bytes_eq row.id.0 id.0) 1 0

pub holds_push : (found : List InstRow) (row : InstRow) (id : InstId) → holds_of (found ++ row ∷ []) id ≡ holds_of (row ∷ found) id
holds_push found row id =
    let a : holds_of (found ++ row ∷ []) id ≡ holds_of found id + holds_of (row ∷ []) id = sum_by-append (one_of id) found (row ∷ []) in
    let b : holds_of (row ∷ []) id ≡ one_of id row + holds_of [] id = sum_by-cons (one_of id) row [] in
    let c : holds_of (row ∷ found) id ≡ one_of id row + holds_of found id = sum_by-cons (one_of id) row found in
    let z : holds_of [] id ≡ 0 = refl in
    sums (holds_of (found ++ row ∷ []) id) (holds_of found id) (holds_of (row ∷ []) id) (one_of id row) (holds_of (row ∷ found) id) (holds_of [] id) a b c z
  where
    sums : (all mine last one with none : ℕ) → all ≡ mine + last → last ≡ one + none → with ≡ one + mine → none ≡ 0 → all ≡ with
    sums all mine last one with none a b c z = omega (arith, a, b, c, z)

pub holds_few : (rows : List InstRow) (id : InstId) → holds_of rows id ≤ length rows
holds_few rows id = count_by-le-length (λ (row : InstRow). bytes_eq row.id.0 id.0) rows

own : (now before mine mine_now : ℕ) → now + mine ≡ before + mine_now → before ≡ mine → now ≡ mine_now
own now before mine mine_now sum is = omega (arith, sum, is)

pub holds_alone : {D : Type 0} → (mine mine_now : InstId → ℕ) (old new : StoreValue D) → MovesHolds mine mine_now old new → ((id : InstId) → holders_in id old.instances.known ≡ mine id) → (id : InstId) → holders_in id new.instances.known ≡ mine_now id
holds_alone mine mine_now old new moves alone id = own (holders_in id new.instances.known) (holders_in id old.instances.known) (mine id) (mine_now id) (moves id) (alone id)

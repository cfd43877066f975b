-- A disk at rest whose files are safe for lists is settled for them.
use Rattle.std.specs.Prelude.{◌≡◌, ◌<◌, ◌==◌, ◌&&◌, ℕ, Bool, true, false, nat_lt, List, [], ◌∷◌, Option, Some, None, All, if◌then◌else◌, refl}
use Rattle.std.specs.Option.{IfSome}
use Rattle.std.specs.Str.{bytes_eq}
use Rattle.std.proofs.Common.{sym, ◌∙◌, subst, inl, inr}
use Rattle.std.proofs.lemmas.Bool.{false≢true, ltb-true}
use Rattle.std.proofs.lemmas.List.Elements.{All-nil, All-cons, All-weaker}
use Rattle.disk_model.specs.Disk.{Files, DiskState, IsAtRest, reading}
use Rattle.disk_model.specs.declared.name.FileName.{FileName}
use Rattle.disk_model.specs.declared.name.FileName.TheVariants as file
use Rattle.disk_model.proofs.AtRestLemmas.{at_rest-images}
use Rattle.mdbox_base.specs.Words.{IsOctets}
use Rattle.model_lists.specs.Lists.{Lists}
use Rattle.model_logs.specs.LogExamples.{root_log, box_log, map_log}
use Rattle.model_meaning.specs.MapMeaning.{MapMeaning, map_meaning}
use Rattle.model_store.specs.Safe.{LiesInFile, Safe}
use Rattle.model_store.specs.Settled.{files_of, HasSameRegion, AreAlike, IsSettled}
use Rattle.model_store.specs.Opening.{HoldOctets}
use Rattle.model_store.specs.StoreExample.{example_file, example_image, example_lists, file_at_rest, disk_at_rest}
use Rattle.model_store.specs.InstanceExample.{instance_octets, instance_hash, instance_id, stored_instance_file, instance_box_log, instance_map_log, instance_image, instance_lists}
use Rattle.model_store.proofs.StandsLemmas.{same_image}
use Rattle.model_store.proofs.StoreExampleLemmas.{example_safe}
use Rattle.model_store.proofs.InstanceExampleLemmas.{instance_safe}

-- the same files agree on all that a store reads of the first
pub alike_same : (g : ℕ) (m : MapMeaning) (a b : Files) → ((name : FileName) → b name ≡ a name) → All (LiesInFile a) m.records → AreAlike g m a b
alike_same g m a b same regions = record {
  root = same file.Root;
  map = same (file.Map g);
  boxes = λ k d below. same _;
  regions = All-weaker (LiesInFile a) (HasSameRegion a b)
      (λ row r. record { first = r.octets; second = r.octets; in_first = r.there; in_second = same (file.Mail row.file) ∙ r.there; first_holds = r.inside; second_holds = r.inside; same = refl }) m.records regions;
  instances = λ k d below i e low. same _;
}

-- A disk at rest is settled for the lists that its files are safe for.
pub rest_settled : (disk : DiskState) (lists : Lists) → ((name : FileName) → IsAtRest (disk name)) → Safe (files_of disk) lists → IsSettled disk lists
rest_settled disk lists rests s = record {
  store = s.store;
  entries = s.entries;
  safe = s.by;
  alike = λ image is. alike_same s.by.stands.map_log.generation (map_meaning s.store s.entries) (files_of disk) image ((at_rest-images disk rests image).0 is) s.by.has_all.regions;
}

-- ---- files on a disk at rest

resting_rests : (octets : Option (List ℕ)) → IfSome octets IsOctets → IsAtRest (file_at_rest octets)
resting_rests None are = inl refl
resting_rests (Some octets) are = inr (octets, are, refl)

resting_reads : (octets : Option (List ℕ)) → reading (file_at_rest octets) ≡ octets
resting_reads None = refl
resting_reads (Some octets) = refl

pub disk_reads : (files : Files) → files_of (disk_at_rest files) ≡ files
disk_reads files = same_image (files_of (disk_at_rest files)) files (λ name. resting_reads (files name))

-- The disk at rest with safe files of octets is settled for their lists.
pub disk_settled : (files : Files) (lists : Lists) → HoldOctets files → Safe files lists → IsSettled (disk_at_rest files) lists
disk_settled files lists are s =
    rest_settled (disk_at_rest files) lists (λ name. resting_rests (files name) (are name)) (subst (λ (a : Files). Safe a lists) (sym (disk_reads files)) s)

-- ---- the examples

are_below : List ℕ → Bool
are_below [] = true
are_below (x ∷ xs) = if nat_lt x 256 then are_below xs else false

octets_by : (xs : List ℕ) → are_below xs ≡ true → IsOctets xs
unfolding are_below
octets_by [] h = All-nil (λ octet. octet < 256)
octets_by (x ∷ xs) h = by_test (nat_lt x 256) refl (octets_by xs) h
  where
    by_test : (t : Bool) → nat_lt x 256 ≡ t → (are_below xs ≡ true → IsOctets xs) → (if t then are_below xs else false) ≡ true → IsOctets (x ∷ xs)
    by_test true e rest h = All-cons (λ octet. octet < 256) x xs (ltb-true x 256 e) (rest h)
    by_test false e rest h = absurd (false≢true h)

one_of : (t : Bool) (octets : List ℕ) → are_below octets ≡ true → IfSome (if t then Some octets else None) IsOctets
one_of true octets h = octets_by octets h
one_of false octets h = tt

example_octets : HoldOctets example_image
unfolding example_image are_below
example_octets file.Root = octets_by root_log refl
example_octets (file.Map g) = one_of (g == 1) map_log refl
example_octets (file.Box k g) = one_of ((k == 1) && (g == 1)) box_log refl
example_octets (file.Mail n) = one_of (n == 1) example_file refl
example_octets (file.Inst hash id) = tt

-- The disk at rest with the files of the example is settled for its lists.
pub example_settled : IsSettled (disk_at_rest example_image) example_lists
example_settled = disk_settled example_image example_lists example_octets example_safe

instance_files_octets : HoldOctets instance_image
unfolding instance_image are_below
instance_files_octets file.Root = octets_by root_log refl
instance_files_octets (file.Map g) = one_of (g == 1) instance_map_log refl
instance_files_octets (file.Box k g) = one_of ((k == 1) && (g == 1)) instance_box_log refl
instance_files_octets (file.Mail n) = one_of (n == 1) stored_instance_file refl
instance_files_octets (file.Inst hash id) = one_of (bytes_eq hash instance_hash && bytes_eq id instance_id) instance_octets refl

-- So is the one with the files of the example with an instance.
pub instance_settled : IsSettled (disk_at_rest instance_image) instance_lists
instance_settled = disk_settled instance_image instance_lists instance_files_octets instance_safe

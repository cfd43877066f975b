-- Lengths of files, and what lies in them.
use Rattle.std.specs.Prelude.{◌≡◌, ◌≤◌, ◌+◌, ◌<◌, ℕ, false, List, ◌++◌, length, map, Option, Some, None, ◌⊎◌, ⊤}
use Rattle.std.specs.Option.{option_map}
use Rattle.std.specs.Ordering.{nat_cmp, is_gt}
use Rattle.std.specs.Cmp.Lexicographic.{slice_cmp}
use Rattle.disk_model.specs.Disk.{Files, History, IfTold}
use Rattle.disk_model.specs.declared.name.FileName.TheVariants as file
use Rattle.model_store.specs.Settled.{files_of}
use Rattle.model_store.specs.Opening.{IsFirstCutOff, IsFirstMissing}
use Rattle.store_checks.specs.declared.error.CheckError.{CheckError}
use Rattle.store_checks.specs.declared.error.CheckError.TheVariants as check
use Rattle.model_meaning.specs.MapMeaning.{MapRecord, MapMeaning, named_instances}
use Rattle.mdbox_base.specs.declared.entries.InstRow.{InstRow}
use Rattle.store_checks.specs.declared.lengths.Asked.{Asked}
use Rattle.store_checks.specs.declared.regions.Region.{Region}
use Rattle.store_checks.specs.declared.instances.Instance.{Instance}

-- the file has this length, or there is none
abbrev pub HasLength : Files → Asked → Type 0
HasLength files asked = option_map length (files asked.name) ≡ asked.length

-- the file that was asked last has the length that it had then
abbrev pub IsAsked : Option Asked → Option History → Type 0
IsAsked None now = ⊤
IsAsked (Some asked) now = IfTold now (λ disk. HasLength (files_of disk) asked)

-- ---- regions

abbrev pub region_of : MapRecord → Region
region_of row = record { file = row.file; offset = row.offset; size = row.size }

abbrev pub regions_in : MapMeaning → List Region
regions_in m = map region_of m.records

-- the region ends within this length
abbrev pub EndsWithin : Region → Option ℕ → Type 0
EndsWithin region None = ⊥
EndsWithin region (Some long) = region.offset + region.size ≤ long

-- by file number and offset, the first doesn't stand behind the second
abbrev pub IsNoLater : Region → Region → Type 0
IsNoLater a b = (a.file < b.file) ⊎ ((a.file ≡ b.file) × (a.offset ≤ b.offset))

-- ---- instances

abbrev pub instance_of : InstRow → Instance
instance_of inst = record { hash = inst.hash; id = inst.id; size = inst.size }

-- the octets by which names of instances are ordered
abbrev pub instance_name_text : Instance → List ℕ
instance_name_text inst = inst.hash.0 ++ inst.id.0

-- in the order of names, the first doesn't stand behind the second
abbrev pub IsNamedNoLater : Instance → Instance → Type 0
IsNamedNoLater a b = is_gt (slice_cmp nat_cmp (instance_name_text a) (instance_name_text b)) ≡ false

abbrev pub instances_in : MapMeaning → List Instance
instances_in m = map instance_of (named_instances m)

-- ---- what passes with the lengths of files

abbrev pub LiesIn : Files → Region → Type 0
LiesIn files region = EndsWithin region (option_map length (files (file.Mail region.file)))

abbrev pub IsWholeIn : Files → Instance → Type 0
IsWholeIn files inst = option_map length (files (file.Inst inst.hash.0 inst.id.0)) ≡ Some inst.size

-- why regions, and instances, don't pass
abbrev pub IsRegionCause : MapMeaning → Option History → CheckError → Type 0
IsRegionCause m old (check.Damaged name place) = IfTold old (λ disk. IsFirstCutOff (files_of disk) m name place)
IsRegionCause m old check.NoStore = ⊥
IsRegionCause m old check.DiskFault = ⊤
IsRegionCause m old check.NoMemory = ⊤

abbrev pub IsInstanceCause : MapMeaning → Option History → CheckError → Type 0
IsInstanceCause m old (check.Damaged name place) = (place ≡ 0) × IfTold old (λ disk. IsFirstMissing (files_of disk) m name)
IsInstanceCause m old check.NoStore = ⊥
IsInstanceCause m old check.DiskFault = ⊤
IsInstanceCause m old check.NoMemory = ⊤

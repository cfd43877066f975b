-- No entry that fits names a storage file past the highest.
use Rattle.std.proofs.Common.{◌≡◌, ◌≢◌, ◌≤◌, ◌==◌, ◌&&◌, not, ℕ, Bool, true, false, max, fold, List, [], ◌∷◌, ◌++◌, All, if◌then◌else◌, refl, arith}
use Rattle.std.specs.List.{AllByRecursion}
use Rattle.std.proofs.lemmas.Grind.{common_steps}
use Rattle.std.proofs.lemmas.List.Elements.{All-nil, All-weaker}
use Rattle.mdbox_base.specs.declared.entries.Highest.{Highest}
use Rattle.mdbox_base.specs.declared.entries.MapPlace.{MapPlace}
use Rattle.mdbox_base.specs.declared.entries.MapEntry.{MapEntry}
use Rattle.mdbox_base.specs.declared.entries.MapEntry.TheVariants as map
use Rattle.model_logs.specs.Entries.{MapInRange}
use Rattle.model_meaning.specs.MapFits.{AllMapFit, FitsTarget, MapFits}
use Rattle.model_meaning.specs.MapMeaning.{MapMeaning, map_meaning, own_number, guid_file, is_own, number_at, numbers_of, higher, no_numbers, sealed_by}
use Rattle.model_meaning.proofs.SealedLemmas.{all_with}
use Rattle.model_meaning.specs.Sound.{IsSoundMap}
use Rattle.store_files.specs.Found.{HasHighestFile}

-- ---- no entry names the greatest number of its type

no_own : (own : Bool) (n : ℕ) → own_number own n ≢ 4294967295
no_own false n e = omega (arith, e)
no_own true n e = by_test (n == 4294967295) refl e
  where
    by_test : (b : Bool) → (n == 4294967295) ≡ b → (if true && not b then n else 0) ≡ 4294967295 → ⊥
    by_test true t e = omega (arith, e)
    by_test false t e = grind (arith, common_steps, t, e)

greater_of : (a b : ℕ) → a ≢ 4294967295 → b ≢ 4294967295 → max a b ≢ 4294967295
greater_of a b p q e = omega (arith, p, q, e)

no_target : (m : MapMeaning) (file target : ℕ) (moved : List MapPlace) → FitsTarget m file target moved → target ≤ 4294967294
no_target m file target [] f = omega (arith, f)
no_target m file target (place ∷ moved) f = f.0.high

no_last : (m : MapMeaning) (entry : MapEntry) → MapFits m entry → (numbers_of m.store entry).file ≢ 4294967295
no_last m (map.H h) f = λ e. let x = f.0.high in omega (arith, x, e)
no_last m (map.B b g n) f = λ e. omega (arith, e)
no_last m (map.G b g) f = λ e. omega (arith, e)
no_last m (map.S origin count uid file offset size guid rows) f =
    greater_of file.0 (guid_file m.store guid.0) (λ e. let x = f.region.file_number.high in omega (arith, x, e)) (no_own (is_own m.store guid.0) (number_at 8 guid.0))
no_last m (map.U u) f = λ e. omega (arith, e)
no_last m (map.D us) f = λ e. omega (arith, e)
no_last m (map.T cs) f = λ e. omega (arith, e)
no_last m (map.P file target ms us) f = λ e.
    let x = f.file_number.high in
    let y = no_target m file.0 target ms f.target_fits in
    omega (arith, x, y, e)
no_last m (map.E file) f = λ e. let x = f.high in omega (arith, x, e)
no_last m (map.X b cs) f = λ e. omega (arith, e)
no_last m (map.V b n) f = λ e. omega (arith, e)

highest_last : (store : List ℕ) (before entries : List MapEntry) (most : Highest) → most.file ≢ 4294967295 → AllMapFit store before entries → (fold (λ most entry. higher most (numbers_of store entry)) most entries).file ≢ 4294967295
highest_last store before [] most p f = p
highest_last store before (entry ∷ entries) most p f =
    highest_last store (before ++ entry ∷ []) entries (higher most (numbers_of store entry)) (greater_of most.file (numbers_of store entry).file p (no_last (map_meaning store before) entry f.0)) f.1

-- ---- each sealed file is up to the highest

abbrev UpTo : Highest → ℕ → Type 0
UpTo most n = n ≤ most.file

raised : (most : Highest) (by : Highest) (files : List ℕ) → All (UpTo most) files → All (UpTo (higher most by)) files
raised most by files all = All-weaker (UpTo most) (UpTo (higher most by)) (λ n le. omega (arith, le)) files all

sealed_up : (store : List ℕ) (entry : MapEntry) (files : List ℕ) (most : Highest) → All (UpTo most) files → All (UpTo (higher most (numbers_of store entry))) (sealed_by entry files)
sealed_up store (map.H h) files most all = raised most (numbers_of store (map.H h)) files all
sealed_up store (map.B b g n) files most all = raised most (numbers_of store (map.B b g n)) files all
sealed_up store (map.G b g) files most all = raised most (numbers_of store (map.G b g)) files all
sealed_up store (map.S o c u f a z g is) files most all = raised most (numbers_of store (map.S o c u f a z g is)) files all
sealed_up store (map.U u) files most all = raised most (numbers_of store (map.U u)) files all
sealed_up store (map.D us) files most all = raised most (numbers_of store (map.D us)) files all
sealed_up store (map.T cs) files most all = raised most (numbers_of store (map.T cs)) files all
sealed_up store (map.P f t ms us) files most all = raised most (numbers_of store (map.P f t ms us)) files all
sealed_up store (map.E file) files most all =
    all_with (UpTo (higher most (numbers_of store (map.E file)))) file.0 files (omega arith) (raised most (numbers_of store (map.E file)) files all)
sealed_up store (map.X b cs) files most all = raised most (numbers_of store (map.X b cs)) files all
sealed_up store (map.V b n) files most all = raised most (numbers_of store (map.V b n)) files all

sealed_from : (store : List ℕ) (entries : List MapEntry) (files : List ℕ) (most : Highest) → All (UpTo most) files
    → All (UpTo (fold (λ most entry. higher most (numbers_of store entry)) most entries)) (fold (λ fs entry. sealed_by entry fs) files entries)
sealed_from store [] files most all = all
sealed_from store (entry ∷ entries) files most all = sealed_from store entries (sealed_by entry files) (higher most (numbers_of store entry)) (sealed_up store entry files most all)

-- the law of the meaning of map logs
abbrev pub MapsAreSound : Type 0
MapsAreSound = (store : List ℕ) (entries : List MapEntry) → AllMapFit store [] entries → AllByRecursion MapInRange entries → IsSoundMap (map_meaning store entries)

pub highest_file : MapsAreSound → (store : List ℕ) (entries : List MapEntry) → AllMapFit store [] entries → AllByRecursion MapInRange entries → HasHighestFile (map_meaning store entries)
highest_file sound store entries fit range = record {
  regions = (sound store entries fit range).files;
  sealed = sealed_from store entries [] no_numbers (All-nil (UpTo no_numbers));
  last = highest_last store [] entries no_numbers (λ e. omega (arith, e)) fit;
}

-- What a choice leaves is one of the images.
use Rattle.std.proofs.Common.{◌≡◌, ◌⊎◌, inl, inr, ℕ, zero, suc, ◌+◌, ◌<◌, ◌≤◌, Bool, true, false, not, cond, List, [], ◌∷◌, length, take, slice_get, Option, Some, None, All, refl, sym, ◌∙◌, ap, subst, arith, get_or, nat_le, nat_lt}
use Rattle.std.proofs.lemmas.Option.{slice_get-get_or}
use Rattle.std.proofs.lemmas.List.{places}
use Rattle.std.proofs.lemmas.Bool.{cases_Bool, cond_both, and_cases, leb-false, ltb-false, not-false, cond-true, cond-false, true≢false, or_parts, or_left, or_right}
use Rattle.disk_model.specs.Disk.{FileState, MayLeave, reading, no_file, covers, overlaid, named}
use Rattle.disk_model.specs.Name.{same_name}
use Rattle.disk_model.specs.declared.name.FileName.{FileName}
use Rattle.disk_mem.specs.declared.choice.Choice.{Choice}
use Rattle.disk_mem.specs.declared.choice.Choice.TheVariants.{Old, New, Torn}
use Rattle.disk_mem.specs.declared.note.Note.{Note}
use Rattle.disk_mem.specs.declared.note.Change.{Change}
use Rattle.disk_mem.specs.declared.note.Change.TheVariants.{Written, HalfWritten, Cut, HalfCut, Synced, Made, HalfMade, Removed, HalfRemoved, NamesSynced}
use Rattle.disk_mem.specs.Left.{left_octets, left_there, left_by_syncs, settled_by, settles, IsTorn, IsChosen}
use Rattle.disk_mem.specs.Record.{changed, is_for_all, at_file, file_after}
use Rattle.disk_mem.specs.Sound.{IsSound, at_name_sound, length-overlaid, reading_left}
use Rattle.disk_mem.proofs.FollowingLemmas.{moved}

-- a crash may leave these octets, as far as they go
pub record Covers (f : FileState) (octets : List ℕ) : Type 0 where
  pub least : f.least ≤ length octets
  pub greatest : length octets ≤ f.greatest
  pub same : (i : ℕ) → i < f.least → f.is_loose i ≡ false → slice_get octets i ≡ slice_get f.octets i
  pub are_octets : All (λ octet. octet < 256) octets

pub covers_own : (f : FileState) → IsSound f → Covers f f.octets
covers_own f s = record { least = s.least; greatest = s.greatest; same = λ i below firm. refl; are_octets = s.are_octets }

outside : (at n i : ℕ) → covers at n i ≡ false → (i < at) ⊎ (at + n ≤ i)
outside at n i apart = elim (and_cases (nat_le at i) (nat_lt i (at + n)) apart) [
  | inl before ↦ inl (leb-false at i before)
  | inr behind ↦ inr (ltb-false i (at + n) behind)
]

inside_overlaid : (old : List ℕ) (at : ℕ) (text : List ℕ) (i : ℕ) → (i < at) ⊎ (at + length text ≤ i) → i < length old → i < length (overlaid old at text)
inside_overlaid old at text i apart below = let long = length-overlaid old at text in elim apart [ inl before ↦ omega (arith, long) | inr behind ↦ omega (arith, long) ]

overlaid-get_or : (old : List ℕ) (at : ℕ) (text : List ℕ) (i : ℕ) → (i < at) ⊎ (at + length text ≤ i) → i < length old → get_or (overlaid old at text) i 0 ≡ get_or old i 0
overlaid-get_or old at text i apart below = grind (arith, places)

overlaid-get : (old : List ℕ) (at : ℕ) (text : List ℕ) (i : ℕ) → covers at (length text) i ≡ false → i < length old → slice_get (overlaid old at text) i ≡ slice_get old i
overlaid-get old at text i apart below =
    let long = length-overlaid old at text in
    let value : get_or (overlaid old at text) i 0 ≡ get_or old i 0 = overlaid-get_or old at text i (outside at (length text) i apart) below in
    slice_get-get_or (overlaid old at text) i 0 (inside_overlaid old at text i (outside at (length text) i apart) below)
    ∙ ap Some value ∙ sym (slice_get-get_or old i 0 below)

take-get : (n : ℕ) (xs : List ℕ) (i : ℕ) → i < n → slice_get (take n xs) i ≡ slice_get xs i
take-get zero xs i below = absurd (omega (arith, below))
take-get (suc n) [] i below = refl
take-get (suc n) (x ∷ xs) zero below = refl
take-get (suc n) (x ∷ xs) (suc i) below = take-get n xs i (omega (arith, below))

named_same : (f : FileState) (octets : List ℕ) → f.is_there ≡ true → Covers f octets → Covers (named f) octets
named_same f octets there is =
    let F : FileState → Type 0 = λ g. Covers g octets in
    subst F (sym (cond-true f.is_there (record f { is_name_loose = false }) no_file there))
    (record { least = is.least; greatest = is.greatest; same = is.same; are_octets = is.are_octets })

no_file_moved : (change : Change) (own : Bool) → own ≡ false → moved change own no_file ≡ no_file
no_file_moved NamesSynced own other = refl
no_file_moved _ true other = absurd (true≢false other)
no_file_moved _ false other = refl

-- octets in range, where some are left
abbrev pub AreFit : Option (List ℕ) → Type 0
AreFit None = Unit {0}
AreFit (Some text) = All (λ octet. octet < 256) text

covers_changed : (change : Change) (own : Bool) (f : FileState) (octets : List ℕ) → IsSound f → settles change own f.is_there ≡ false → Covers f octets → Covers (moved change own f) octets
covers_changed (Written at text) true f octets s unsettled is = record {
  least = is.least;
  greatest = let g : length octets ≤ f.greatest = is.greatest in omega arith;
  same = λ i below firm.
      let parts = or_parts _ _ firm in
      let l : f.least ≤ length f.octets = s.least in
      is.same i below parts.0 ∙ sym (overlaid-get f.octets at text.octets.items i parts.1 (omega (arith, below, l)));
  are_octets = is.are_octets;
}
covers_changed (HalfWritten at n) true f octets s unsettled is = record {
  least = is.least;
  greatest = let g : length octets ≤ f.greatest = is.greatest in omega arith;
  same = λ i below firm. is.same i below (or_parts _ _ firm).0;
  are_octets = is.are_octets;
}
covers_changed (Cut n) true f octets s unsettled is = record {
  least = let l : f.least ≤ length octets = is.least in omega arith;
  greatest = is.greatest;
  same = λ i below firm. is.same i (omega arith) firm ∙ sym (take-get n f.octets i (omega arith));
  are_octets = is.are_octets;
}
covers_changed (HalfCut n) true f octets s unsettled is = record {
  least = let l : f.least ≤ length octets = is.least in omega arith;
  greatest = is.greatest;
  same = λ i below firm. is.same i (omega arith) firm;
  are_octets = is.are_octets;
}
covers_changed Made true f octets s unsettled is = record { least = omega arith; greatest = is.greatest; same = λ i below firm. absurd (omega (arith, below)); are_octets = is.are_octets }
covers_changed HalfMade true f octets s unsettled is = record { least = omega arith; greatest = is.greatest; same = λ i below firm. absurd (omega (arith, below)); are_octets = is.are_octets }
covers_changed Removed true f octets s unsettled is = record { least = is.least; greatest = is.greatest; same = is.same; are_octets = is.are_octets }
covers_changed HalfRemoved true f octets s unsettled is = record { least = is.least; greatest = is.greatest; same = is.same; are_octets = is.are_octets }
covers_changed Synced true f octets s unsettled is = absurd (true≢false unsettled)
covers_changed NamesSynced true f octets s unsettled is = named_same f octets (not-false f.is_there unsettled) is
covers_changed NamesSynced false f octets s unsettled is = named_same f octets (not-false f.is_there unsettled) is
covers_changed _ false f octets s unsettled is = is

-- what the last syncs left of the octets
pub octets_cover : (name : FileName) (notes : List Note) (f : FileState) (octets : List ℕ) → IsSound f → Covers f octets → Covers (file_after name notes f) (left_octets name notes f octets)
octets_cover name [] f octets s is = is
octets_cover name (note ∷ notes) f octets s is =
    let next = at_file name note f in
    let sound = at_name_sound note.name note.change name f s in
    let F : List ℕ → Type 0 = λ left. Covers next left in
    octets_cover name notes next (cond (settled_by name note f) next.octets octets) sound
    (elim (cases_Bool (settled_by name note f)) [
      | inl settled ↦ subst F (sym (cond-true (settled_by name note f) next.octets octets settled)) (covers_own next sound)
      | inr unsettled ↦ subst F (sym (cond-false (settled_by name note f) next.octets octets unsettled)) (covers_changed note.change (same_name name note.name) f octets s unsettled is)
    ])

-- whether the file was there at the last sync of names
abbrev NameCovers : FileState → Bool → Type 0
NameCovers f there = (there ≡ f.is_there) ⊎ (f.is_name_loose ≡ true)

made_name : (f : FileState) (there : Bool) → NameCovers f there → NameCovers (changed Made f) there
made_name f there (inr loose) = inr (or_left f.is_name_loose (not f.is_there) loose)
made_name f there (inl is) = elim (cases_Bool f.is_there) [
  | inl here ↦ inl (is ∙ here)
  | inr gone ↦ inr (or_right f.is_name_loose (not f.is_there) (ap not gone))
]

removed_name : (f : FileState) (there : Bool) → NameCovers f there → NameCovers (changed Removed f) there
removed_name f there (inr loose) = inr (or_left f.is_name_loose f.is_there loose)
removed_name f there (inl is) = elim (cases_Bool f.is_there) [
  | inl here ↦ inr (or_right f.is_name_loose f.is_there here)
  | inr gone ↦ inl (is ∙ gone)
]

name_changed : (change : Change) (own : Bool) (f : FileState) (there : Bool) → is_for_all change ≡ false → NameCovers f there → NameCovers (moved change own f) there
name_changed Made true f there one is = made_name f there is
name_changed Removed true f there one is = removed_name f there is
name_changed HalfMade true f there one is = inr refl
name_changed HalfRemoved true f there one is = inr refl
name_changed NamesSynced own f there one is = absurd (true≢false one)
name_changed _ true f there one is = is
name_changed _ false f there one is = is

pub there_covers : (name : FileName) (notes : List Note) (f : FileState) (there : Bool) → NameCovers f there → NameCovers (file_after name notes f) (left_there name notes f there)
there_covers name [] f there is = is
there_covers name (note ∷ notes) f there is =
    let next = at_file name note f in
    let F : Bool → Type 0 = NameCovers next in
    there_covers name notes next (cond (is_for_all note.change) next.is_there there)
    (elim (cases_Bool (is_for_all note.change)) [
      | inl all ↦ inl (cond-true (is_for_all note.change) next.is_there there all)
      | inr one ↦ subst F (sym (cond-false (is_for_all note.change) next.is_there there one)) (name_changed note.change (same_name name note.name) f there one is)
    ])

sound_after : (name : FileName) (notes : List Note) (f : FileState) → IsSound f → IsSound (file_after name notes f)
sound_after name [] f s = s
sound_after name (note ∷ notes) f s = sound_after name notes (at_file name note f) (at_name_sound note.name note.change name f s)

covers_leave : (f : FileState) (there : Bool) (octets : List ℕ) → NameCovers f there → Covers f octets → MayLeave f (cond there (Some octets) None)
covers_leave f true octets named is = record {
  named = elim named [ inl here ↦ inl (sym here) | inr loose ↦ inr loose ];
  least = is.least;
  greatest = is.greatest;
  same = is.same;
  are_octets = is.are_octets;
}
covers_leave f false octets named is = elim named [ inl gone ↦ inl (sym gone) | inr loose ↦ inr loose ]

pub old_left : (name : FileName) (notes : List Note) (f : FileState) → IsSound f → MayLeave (file_after name notes f) (left_by_syncs name notes f)
old_left name notes f s =
    covers_leave (file_after name notes f) (left_there name notes f f.is_there) (left_octets name notes f f.octets)
    (there_covers name notes f f.is_there (inl refl)) (octets_cover name notes f f.octets s (covers_own f s))

torn_left : (octet : ℕ) (f : FileState) (left : Option (List ℕ)) → AreFit left → IsSound f → IsTorn octet f left → MayLeave f left
torn_left octet f None fits s gone = inl gone
torn_left octet f (Some text) fits s torn =
    let long : length text ≡ length f.octets = torn.1 in
    let l : f.least ≤ length f.octets = s.least in
    let g : length f.octets ≤ f.greatest = s.greatest in
    record {
      named = inl torn.0;
      least = omega (arith, long, l);
      greatest = omega (arith, long, g);
      same = λ i below firm.
          let within : i < length f.octets = omega (arith, below, l) in
          slice_get-get_or text i 0 (omega (arith, within, long))
          ∙ ap Some (torn.2 i within ∙ cond-false (f.is_loose i) octet (get_or f.octets i 0) firm)
          ∙ sym (slice_get-get_or f.octets i 0 within);
      are_octets = fits;
    }

-- what a choice leaves is what a crash may leave
pub chosen_left : (choice : Choice) (name : FileName) (notes : List Note) (f : FileState) (left : Option (List ℕ)) → AreFit left → IsSound f
    → IsChosen choice (file_after name notes f) (left_by_syncs name notes f) left → MayLeave (file_after name notes f) left
chosen_left Old name notes f left fits s is =
    let F : Option (List ℕ) → Type 0 = MayLeave (file_after name notes f) in
    subst F (sym is) (old_left name notes f s)
chosen_left New name notes f left fits s is =
    let F : Option (List ℕ) → Type 0 = MayLeave (file_after name notes f) in
    subst F (sym is) (reading_left (file_after name notes f) (sound_after name notes f s))
chosen_left (Torn octet) name notes f left fits s is = torn_left octet (file_after name notes f) left fits (sound_after name notes f s) is

-- a name of no file and of no note
pub no_file_after : (name : FileName) (notes : List Note) → ((k : ℕ) (note : Note) → slice_get notes k ≡ Some note → same_name name note.name ≡ false)
    → (file_after name notes no_file ≡ no_file) × (left_there name notes no_file false ≡ false)
no_file_after name [] apart = (refl, refl)
no_file_after name (note ∷ notes) apart =
    let other = apart 0 note refl in
    let same : at_file name note no_file ≡ no_file = no_file_moved note.change (same_name name note.name) other in
    let rest = no_file_after name notes (λ k later at. apart (suc k) later at) in
    let there : cond (is_for_all note.change) (at_file name note no_file).is_there false ≡ false =
    cond_both (is_for_all note.change) (at_file name note no_file).is_there false (λ b. b ≡ false) (λ e. ap (λ (g : FileState). g.is_there) same) (λ e. refl) in (
      ap (file_after name notes) same ∙ rest.0,
      ap (λ f. left_there name notes f (cond (is_for_all note.change) (at_file name note no_file).is_there false)) same
          ∙ ap (left_there name notes no_file) there ∙ rest.1,
    )

pub none_chosen : (choice : Choice) (name : FileName) (notes : List Note) → ((k : ℕ) (note : Note) → slice_get notes k ≡ Some note → same_name name note.name ≡ false)
    → IsChosen choice (file_after name notes no_file) (left_by_syncs name notes no_file) None
none_chosen Old name notes apart = sym (cond-false (left_there name notes no_file false) (Some (left_octets name notes no_file [])) None (no_file_after name notes apart).1)
none_chosen New name notes apart = sym (ap reading (no_file_after name notes apart).0)
none_chosen (Torn octet) name notes apart = ap (λ (g : FileState). g.is_there) (no_file_after name notes apart).0

-- A file that is compared with octets, piece by piece.
use Rattle.std.specs.Prelude.{◌↔◌, IsTrue}
use Rattle.std.specs.Option.{option_map}
use Rattle.std.proofs.Common.{◌≡◌, ℕ, ◌+◌, ◌-◌, ◌≤◌, Bool, true, false, List, ◌++◌, length, take, drop, Option, Some, None, refl, sym, ◌∙◌, ap, subst, arith, take_all}
use Rattle.std.proofs.Math.Seq.{take-add}
use Rattle.std.proofs.lemmas.Bool.{true≢false, false≢true}
use Rattle.std.proofs.lemmas.Option.{same_Some}
use Rattle.std.proofs.lemmas.List.{length-take-le, length-drop}
use Rattle.disk_model.specs.Disk.{History, DiskState, IfTold, IsIdle, reading}
use Rattle.disk_model.specs.declared.name.FileName.{FileName}
use Rattle.disk_model.proofs.IdleLemmas.{idle-back}
use Rattle.disk_model.proofs.MomentLemmas.{if_told-map, if_told-both}
use Rattle.sis_store.specs.OnDisk.{octets_read}

-- the file is as long as these octets, and so many of them are the same
pub record IsSameTo (octets : List ℕ) (at : ℕ) (file : Option (List ℕ)) : Type 0 where
  pub text : List ℕ
  pub is : file ≡ Some text
  pub long : length text ≡ length octets
  pub front : take at text ≡ take at octets

pub same-begun : (octets : List ℕ) (file : Option (List ℕ)) (n : ℕ) → option_map length file ≡ Some n → n ≡ length octets → IsSameTo octets 0 file
same-begun octets None n e long = absurd (let w : None ≡ Some n = e in cc w)
same-begun octets (Some text) n e long = record { text = text; is = refl; long = same_Some _ _ e ∙ long; front = refl }

-- a file of another length is another
pub other-length : (octets : List ℕ) (file : Option (List ℕ)) (n : ℕ) → option_map length file ≡ Some n → (n ≡ length octets → ⊥) → IsTrue false ↔ (file ≡ Some octets)
other-length octets file n e apart = (λ t. absurd (false≢true t), λ is. absurd (apart (same_Some _ _ (sym e ∙ ap (option_map length) is))))

pub no-file : (octets : List ℕ) (file : Option (List ℕ)) → file ≡ None → IsTrue false ↔ (file ≡ Some octets)
no-file octets file none = (λ t. absurd (false≢true t), λ is. absurd (let w : None ≡ Some octets = sym none ∙ is in cc w))

-- the piece of the octets
abbrev piece : List ℕ → ℕ → ℕ → List ℕ
piece octets at end = take (end - at) (drop at octets)

piece_long : (octets : List ℕ) (at end : ℕ) → at ≤ end → end ≤ length octets → length (piece octets at end) ≡ end - at
piece_long octets at end le within = let d = length-drop at octets in length-take-le (end - at) (drop at octets) (omega (arith, d, le, within))

pub same-more : (octets : List ℕ) (at end : ℕ) (file : Option (List ℕ)) (r : Bool) → at ≤ end → end ≤ length octets → r ≡ true → IsSameTo octets at file → (IsTrue r ↔ (octets_read at (length (piece octets at end)) file ≡ piece octets at end)) → IsSameTo octets end file
same-more octets at end file r le within is_same s h =
    let read : octets_read at (length (piece octets at end)) (Some s.text) ≡ piece octets at end = subst (λ (f : Option (List ℕ)). octets_read at (length (piece octets at end)) f ≡ piece octets at end) s.is (h.0 is_same) in
    let next : take (end - at) (drop at s.text) ≡ piece octets at end = ap (λ (n : ℕ). take n (drop at s.text)) (sym (piece_long octets at end le within)) ∙ read in
    let sum : at + (end - at) ≡ end = omega (arith, le) in
    let join : take (at + (end - at)) s.text ≡ take (at + (end - at)) octets =
    take-add at (end - at) s.text ∙ ap (λ (x : List ℕ). x ++ take (end - at) (drop at s.text)) s.front ∙ ap (λ (x : List ℕ). take at octets ++ x) next ∙ sym (take-add at (end - at) octets) in
    record { text = s.text; is = s.is; long = s.long; front = subst (λ (n : ℕ). take n s.text ≡ take n octets) sum join }

-- where a piece differs the file is another
pub other-piece : (octets : List ℕ) (at end : ℕ) (file : Option (List ℕ)) (r : Bool) → at ≤ end → end ≤ length octets → r ≡ false → (IsTrue r ↔ (octets_read at (length (piece octets at end)) file ≡ piece octets at end)) → IsTrue false ↔ (file ≡ Some octets)
other-piece octets at end file r le within no_piece h = (
  λ t. absurd (false≢true t),
  λ is.
      let here : octets_read at (length (piece octets at end)) (Some octets) ≡ piece octets at end = ap (λ (n : ℕ). take n (drop at octets)) (piece_long octets at end le within) in
      absurd (true≢false (sym (h.1 (subst (λ (f : Option (List ℕ)). octets_read at (length (piece octets at end)) f ≡ piece octets at end) (sym is) here)) ∙ no_piece)),
)

-- all of it is the same
pub same-all : (octets : List ℕ) (at : ℕ) (file : Option (List ℕ)) → length octets ≤ at → IsSameTo octets at file → IsTrue true ↔ (file ≡ Some octets)
same-all octets at file all s =
    let long = s.long in
    let whole : s.text ≡ octets = sym (take_all at s.text (omega (arith, long, all))) ∙ s.front ∙ take_all at octets all in
    (λ t. s.is ∙ ap Some whole, λ e. refl)

-- the same of a file on a disk

pub told-begun : (name : FileName) (old : Option History) (octets : List ℕ) (n : ℕ) → IfTold old (λ disk. option_map length (reading (disk name)) ≡ Some n) → n ≡ length octets → IfTold old (λ disk. IsSameTo octets 0 (reading (disk name)))
told-begun name old octets n told long = if_told-map (λ disk. option_map length (reading (disk name)) ≡ Some n) (λ disk. IsSameTo octets 0 (reading (disk name))) old (λ disk e. same-begun octets (reading (disk name)) n e long) told

pub told-other_length : (name : FileName) (old : Option History) (octets : List ℕ) (n : ℕ) → IfTold old (λ disk. option_map length (reading (disk name)) ≡ Some n) → (n ≡ length octets → ⊥) → IfTold old (λ disk. IsTrue false ↔ (reading (disk name) ≡ Some octets))
told-other_length name old octets n told apart = if_told-map (λ disk. option_map length (reading (disk name)) ≡ Some n) (λ disk. IsTrue false ↔ (reading (disk name) ≡ Some octets)) old (λ disk e. other-length octets (reading (disk name)) n e apart) told

pub told-no_file : (name : FileName) (old : Option History) (octets : List ℕ) → IfTold old (λ disk. reading (disk name) ≡ None) → IfTold old (λ disk. IsTrue false ↔ (reading (disk name) ≡ Some octets))
told-no_file name old octets told = if_told-map (λ disk. reading (disk name) ≡ None) (λ disk. IsTrue false ↔ (reading (disk name) ≡ Some octets)) old (λ disk e. no-file octets (reading (disk name)) e) told

-- a piece says this
abbrev pub Says : FileName → List ℕ → ℕ → ℕ → Bool → DiskState → Type 0
Says name octets at end r disk = IsTrue r ↔ (octets_read at (length (take (end - at) (drop at octets))) (reading (disk name)) ≡ take (end - at) (drop at octets))

pub told-other_piece : (name : FileName) (old now : Option History) (octets : List ℕ) (at end : ℕ) (r : Bool) → IsIdle old now → at ≤ end → end ≤ length octets → r ≡ false → IfTold now (Says name octets at end r) → IfTold old (λ disk. IsTrue false ↔ (reading (disk name) ≡ Some octets))
told-other_piece name old now octets at end r idle le within isnt says =
    if_told-map (Says name octets at end r) (λ disk. IsTrue false ↔ (reading (disk name) ≡ Some octets)) old (λ disk h. other-piece octets at end (reading (disk name)) r le within isnt h) (idle-back (Says name octets at end r) old now idle says)

pub told-more : (name : FileName) (old now : Option History) (octets : List ℕ) (at end : ℕ) (r : Bool) → IsIdle old now → at ≤ end → end ≤ length octets → r ≡ true → IfTold old (λ disk. IsSameTo octets at (reading (disk name))) → IfTold now (Says name octets at end r)
    → IfTold old (λ disk. IsSameTo octets end (reading (disk name)))
told-more name old now octets at end r idle le within is same says =
    if_told-both (λ disk. IsSameTo octets at (reading (disk name))) (Says name octets at end r) (λ disk. IsSameTo octets end (reading (disk name))) old (λ disk s h. same-more octets at end (reading (disk name)) r le within is s h) same (idle-back (Says name octets at end r) old now idle says)

pub told-all : (name : FileName) (old : Option History) (octets : List ℕ) (at : ℕ) → length octets ≤ at → IfTold old (λ disk. IsSameTo octets at (reading (disk name))) → IfTold old (λ disk. IsTrue true ↔ (reading (disk name) ≡ Some octets))
told-all name old octets at all same = if_told-map (λ disk. IsSameTo octets at (reading (disk name))) (λ disk. IsTrue true ↔ (reading (disk name) ≡ Some octets)) old (λ disk s. same-all octets at (reading (disk name)) all s) same

-- The head of a root log that has an entry.
use Rattle.std.proofs.Common.{◌≡◌, ◌+◌, ℕ, List, ◌∷◌, ◌++◌, length, take, drop, Option, Some, inl, inr, sym, ◌∙◌, ap, subst, arith, append_assoc, take-take}
use Rattle.std.proofs.lemmas.List.{take-append-drop, length-take, drop-take}
use Rattle.std.proofs.Math.Seq.{take-append-add}
use Rattle.disk_model.specs.Disk.{History, IfTold, reading}
use Rattle.disk_model.specs.declared.name.FileName.TheVariants as file
use Rattle.disk_model.proofs.MomentLemmas.{if_told-map}
use Rattle.model_logs.specs.LogFile.{head_octets}
use Rattle.model_logs.proofs.LogFileLemmas.{head_length}
use Rattle.model_store.specs.Settled.{files_of}
use Rattle.model_store.specs.Opening.{HasClosedHead, HasNoEntry}
use Rattle.gate_log.specs.Reading.{IsPeekedFront}
use Rattle.store_checks.specs.Roots.{HasId}

-- 27 octets tell whether there is an entry
closed_front : (octets : List ℕ) → HasClosedHead (take 27 octets) → HasClosedHead octets
closed_front octets h = record {
  head = h.head;
  fits = h.fits;
  gate = h.gate;
  behind = h.behind ++ drop 27 octets;
  spelled = sym (take-append-drop 27 octets) ∙ ap (λ (o : List ℕ). o ++ drop 27 octets) h.spelled ∙ append_assoc (head_octets h.head) (h.gate ∷ h.behind) (drop 27 octets);
  closed = h.closed;
}

front_closed : (octets : List ℕ) → HasClosedHead octets → HasClosedHead (take 27 octets)
front_closed octets h =
    let n : length (head_octets h.head) + 2 ≡ 27 = (let l = head_length h.head h.fits in omega (arith, l)) in
    let t : take (length (head_octets h.head) + 2) (head_octets h.head ++ h.gate ∷ h.behind) ≡ head_octets h.head ++ take 2 (h.gate ∷ h.behind) = take-append-add (head_octets h.head) (h.gate ∷ h.behind) 2 in
    record {
      head = h.head;
      fits = h.fits;
      gate = h.gate;
      behind = take 1 h.behind;
      spelled = ap (take 27) h.spelled ∙ ap (λ (k : ℕ). take k (head_octets h.head ++ h.gate ∷ h.behind)) (sym n) ∙ t;
      closed = h.closed;
    }

pub none_in_front : (octets : List ℕ) → HasNoEntry (Some (take 27 octets)) → HasNoEntry (Some octets)
none_in_front octets (inl short) = let l = length-take 27 octets in inl (omega (arith, l, short))
none_in_front octets (inr h) = inr (closed_front octets h)

pub none_in_all : (octets : List ℕ) → HasNoEntry (Some octets) → HasNoEntry (Some (take 27 octets))
none_in_all octets (inl short) = let l = length-take 27 octets in inl (omega (arith, l, short))
none_in_all octets (inr h) = inr (front_closed octets h)

-- what the first octets tell, where the file has so many
pub no_entry : (found : Option (List ℕ)) (front : List ℕ) (old : Option History) → found ≡ Some front → HasNoEntry (Some front) → IfTold old (λ disk. IsPeekedFront (reading (disk file.Root)) found) → IfTold old (λ disk. HasNoEntry (reading (disk file.Root)))
no_entry found front old is none told =
    let F : Option (List ℕ) → Type 0 = λ o. IfTold old (λ disk. IsPeekedFront (reading (disk file.Root)) o) in
    if_told-map _ _ old (λ disk f. subst HasNoEntry (sym f.1) (none_in_front f.0 (subst (λ (o : List ℕ). HasNoEntry (Some o)) f.3 none))) (subst F is told)

-- the id in front
pub has_id : (found : Option (List ℕ)) (front : List ℕ) (store : List ℕ) (old : Option History) → found ≡ Some front → (HasNoEntry (Some front) → ⊥) → store ≡ take 8 (drop 8 front) → IfTold old (λ disk. IsPeekedFront (reading (disk file.Root)) found) → IfTold old (λ disk. HasId store (files_of disk))
has_id found front store old here some is told =
    let F : Option (List ℕ) → Type 0 = λ o. IfTold old (λ disk. IsPeekedFront (reading (disk file.Root)) o) in
    if_told-map _ _ old
    (λ disk f.
    record {
      octets = f.0;
      there = f.1;
      has_entry = λ none. some (subst (λ (o : List ℕ). HasNoEntry (Some o)) (sym f.3) (none_in_all f.0 none));
      id_is = is ∙ ap (λ (o : List ℕ). take 8 (drop 8 o)) f.3 ∙ id_front f.0;
    })
    (subst F here told)
  where
    id_front : (octets : List ℕ) → take 8 (drop 8 (take 27 octets)) ≡ take 8 (drop 8 octets)
    id_front octets = ap (take 8) (drop-take 8 19 octets) ∙ take-take 8 19 (drop 8 octets) (omega arith)

-- What the first 27 octets of a root log tell.
use Rattle.std.proofs.Common.{◌↔◌, inl, true, Bool, IsTrue, ℕ, List, Option, Some, None, refl, sym, subst, arith}
use Rattle.disk_model.specs.Disk.{History, IfTold, reading}
use Rattle.disk_model.specs.declared.name.FileName.TheVariants as file
use Rattle.disk_model.proofs.MomentLemmas.{if_told-map}
use Rattle.model_store.specs.Opening.{HasNoEntry}
use Rattle.gate_log.specs.Reading.{IsPeekedFront}
use Rattle.store_checks.proofs.RootHeadLemmas.{none_in_front, none_in_all}

few : (file : Option (List ℕ)) → IsPeekedFront file None → HasNoEntry file
few None short = tt
few (Some octets) short = inl (omega (arith, short))

-- a root log with fewer octets has no entry
pub few_tell : (old : Option History) → IfTold old (λ disk. IsPeekedFront (reading (disk file.Root)) None) → IfTold old (λ disk. IsTrue true ↔ HasNoEntry (reading (disk file.Root)))
few_tell old front = if_told-map _ _ old (λ disk f. ((λ is. few (reading (disk file.Root)) f), (λ none. refl))) front

whole : (lacks : Bool) (front : List ℕ) (file : Option (List ℕ)) → IsTrue lacks ↔ HasNoEntry (Some front) → IsPeekedFront file (Some front) → IsTrue lacks ↔ HasNoEntry file
whole lacks front file tells f =
    let back = subst (λ (o : Option (List ℕ)). HasNoEntry o) (sym f.1) in
    let forth = subst (λ (o : Option (List ℕ)). HasNoEntry o) f.1 in
    ((λ is. back (none_in_front f.0 (subst (λ (o : List ℕ). HasNoEntry (Some o)) f.3 (tells.0 is)))), (λ none. tells.1 (subst (λ (o : List ℕ). HasNoEntry (Some o)) (sym f.3) (none_in_all f.0 (forth none)))))

-- and in one with more they tell whether it has
pub front_tells : (old : Option History) (lacks : Bool) (front : List ℕ) → IsTrue lacks ↔ HasNoEntry (Some front) → IfTold old (λ disk. IsPeekedFront (reading (disk file.Root)) (Some front))
    → IfTold old (λ disk. IsTrue lacks ↔ HasNoEntry (reading (disk file.Root)))
front_tells old lacks front tells is = if_told-map _ _ old (λ disk f. whole lacks front (reading (disk file.Root)) tells f) is

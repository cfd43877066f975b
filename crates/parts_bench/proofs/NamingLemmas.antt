-- References that name parts, one after another.
use Rattle.std.proofs.Common.{◌≡◌, List, [], ◌∷◌, ◌++◌}
use Rattle.mdbox_base.specs.declared.metadata.ExtRef.{ExtRef}
use Rattle.attach_detach.specs.declared.message.Detached.{Detached}
use Rattle.attach_detach.specs.Prepared.{NameParts}

abbrev pub Names : ExtRef → Detached → Type 0
Names ref d = (ref.start ≡ d.start) × (ref.count ≡ d.count) × (ref.form ≡ d.form) × (ref.hash ≡ d.hash)

pub name_next : (refs : List ExtRef) (parts : List Detached) (ref : ExtRef) (d : Detached) → NameParts refs parts → Names ref d → NameParts (refs ++ ref ∷ []) (parts ++ d ∷ [])
name_next [] [] ref d h n = (n.0, n.1, n.2, n.3, tt)
name_next [] (p ∷ parts) ref d h n = absurd h
name_next (r ∷ refs) [] ref d h n = absurd h
name_next (r ∷ refs) (p ∷ parts) ref d h n = (h.0, h.1, h.2, h.3, name_next refs parts ref d h.4 n)

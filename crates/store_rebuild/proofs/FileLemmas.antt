-- Files of which a crash leaves what they read, through a sync and a sync of names.
use Rattle.std.proofs.Common.{◌≡◌, ◌≢◌, ◌⊎◌, inl, inr, ℕ, ◌≤◌, true, false, List, length, Option, Some, None, refl, sym, ◌∙◌, ap, subst, arith}
use Rattle.std.proofs.lemmas.Bool.{cases_Bool, cond-true, cond-false, true≢false, false≢true}
use Rattle.disk_model.specs.Disk.{FileState, DiskState, History, IsThere, Between, Keeps, MayHold, MayLeave, named, no_file, reading, synced}
use Rattle.disk_model.specs.declared.name.FileName.{FileName}
use Rattle.disk_model.proofs.FirmLemmas.{firm_from_keeps, keeps_from_firm, reading_from_there}
use Rattle.disk_model.proofs.OneFileLemmas.{named-narrows, same_by_get}
use Rattle.gate_log.specs.Log.{NamedButFor}
use Rattle.store_rebuild.specs.Writing.{IsFileSynced}

-- ---- names are synced

pub named_gone : (f : FileState) → (IsThere f → ⊥) → named f ≡ no_file
named_gone f gone = elim (cases_Bool f.is_there) [
  | inl there ↦ absurd (gone there)
  | inr not ↦ cond-false f.is_there (record f { is_name_loose = false }) no_file not
]

pub named_there : (f : FileState) → IsThere f → named f ≡ record f { is_name_loose = false }
named_there f there = cond-true f.is_there (record f { is_name_loose = false }) no_file there

pub named_reads : (f : FileState) → reading (named f) ≡ reading f
named_reads f = elim (cases_Bool f.is_there) [
  | inl there ↦ ap reading (named_there f there)
  | inr not ↦ ap reading (cond-false f.is_there (record f { is_name_loose = false }) no_file not) ∙ sym (cond-false f.is_there (Some f.octets) None not)
]

pub named_keeps : (f : FileState) (octets : List ℕ) → Keeps f octets → Keeps (named f) octets
named_keeps f octets k =
    let firm = firm_from_keeps f octets k in
    subst (λ (g : FileState). Keeps g octets) (sym (named_there f firm.there))
    (keeps_from_firm (record f { is_name_loose = false }) octets
    (record { there = firm.there; octets = firm.octets; least = firm.least; greatest = firm.greatest; firm = firm.firm; name = refl; are_octets = firm.are_octets }))

-- a synced file is durable once its name is synced
pub synced_keeps : (f : FileState) → IsFileSynced f → MayLeave f (reading f) → Keeps (named f) f.octets
synced_keeps f s leaves = record {
  reads = named_reads f ∙ reading_from_there f s.there;
  leaves = λ left. (λ h. only left h, λ e. subst (MayLeave (named f)) (sym e) back);
}
  where
    only : (left : Option (List ℕ)) → MayLeave (named f) left → left ≡ Some f.octets
    only None h = absurd (none (subst (λ (g : FileState). MayLeave g None) (named_there f s.there) h))
      where
        none : (f.is_there ≡ false) ⊎ (false ≡ true) → ⊥
        none (inl gone) = true≢false (sym s.there ∙ gone)
        none (inr loose) = false≢true loose
    only (Some octets) h = ap Some (s.octets octets (named-narrows f (Some octets) h))

    back : MayLeave (named f) (Some f.octets)
    back = subst (λ (g : FileState). MayLeave g (Some f.octets)) (sym (named_there f s.there)) (held (subst (MayLeave f) (reading_from_there f s.there) leaves))
      where
        held : MayHold f f.octets → MayHold (record f { is_name_loose = false }) f.octets
        held h = record { named = inl s.there; least = h.least; greatest = h.greatest; same = h.same; are_octets = h.are_octets }

-- ---- a file is synced

pub synced_synced : (f : FileState) → IsThere f → IsFileSynced (synced f)
synced_synced f there = record {
  there = there;
  octets = λ left h.
      let least : length f.octets ≤ length left = h.least in
      let greatest : length left ≤ length f.octets = h.greatest in
      same_by_get left f.octets (omega arith) (λ i below. h.same i below refl);
}

-- ---- all other names are synced

abbrev pub NamedOthers : FileName → DiskState → DiskState → Type 0
NamedOthers name a b = (other : FileName) → other ≢ name → b other ≡ named (a other)

pub named_between : (name : FileName) (old new : Option History) → NamedButFor name old new → Between (NamedOthers name) old new
named_between name None new is = is
named_between name (Some old) None is = is
named_between name (Some old) (Some new) is = is

-- A log that was found, and is repaired.
use Rattle.std.proofs.Common.{◌≡◌, ℕ, List, length, Option, Some, None, sym, subst}
use Rattle.std.proofs.Math.ListN.{replicate}
use Rattle.std.proofs.lemmas.List.{length-replicate}
use Rattle.disk_model.specs.Disk.{History, IfTold, EachImage, OthersStay, SameButFor, Keeps, reading}
use Rattle.disk_model.proofs.MomentLemmas.{if_told-map, if_told-both}
use Rattle.model_logs.specs.declared.log_head.LogHead.{LogHead}
use Rattle.model_logs.specs.LogFile.{IsLogFile}
use Rattle.gate_log.specs.State.{LogState, InspectedLog}
use Rattle.gate_log.specs.Log.{IsStanding, IsDurable, IsFound, IsFoundKept, Reads, Holds, log_text}
use Rattle.gate_log.proofs.LogEndLemmas.{Frame, carried}

-- what stands behind the last gate: where the disk tells nothing, any octets

record Rest (found : InspectedLog) (entries : List (List ℕ)) (old : Option History) : Type 0 where
  pub rest : List ℕ
  pub behind : found.behind ≡ length rest
  pub stands : IfTold old (IsStanding found.name found.head entries found.end found.gate rest)

rest_of : (found : InspectedLog) (entries : List (List ℕ)) (old : Option History) → IfTold old (IsFound found entries) → Rest found entries old
rest_of found entries None h = record { rest = replicate found.behind 0; behind = sym (length-replicate found.behind 0); stands = tt }
rest_of found entries (Some old) h = record { rest = h.rest; behind = h.behind; stands = h.stands }

record KeptRest (found : InspectedLog) (entries : List (List ℕ)) (old : Option History) : Type 0 where
  pub rest : List ℕ
  pub behind : found.behind ≡ length rest
  pub kept : IfTold old (IsDurable found.name found.head entries found.end found.gate rest)

kept_rest_of : (found : InspectedLog) (entries : List (List ℕ)) (old : Option History) → IfTold old (IsFoundKept found entries) → KeptRest found entries old
kept_rest_of found entries None h = record { rest = replicate found.behind 0; behind = sym (length-replicate found.behind 0); kept = tt }
kept_rest_of found entries (Some old) h = record { rest = h.rest; behind = h.behind; kept = h.kept }

found-kept : (found : InspectedLog) (entries : List (List ℕ)) (old : Option History) → IfTold old (IsFoundKept found entries) → IfTold old (IsFound found entries)
found-kept found entries old h = if_told-map _ _ old (λ disk k. record { count = k.count; rest = k.rest; behind = k.behind; stands = k.kept.stands }) h

-- what the calls ask and promise, of the fields and of what callers see

pub repairing-stands : (seen found : InspectedLog) (old : Option History) → seen ≡ found → (entries : List (List ℕ)) × IfTold old (IsFound found entries)
    → (head : LogHead) × (entries : List (List ℕ)) × (rest : List ℕ) × (seen.behind ≡ length rest) × IfTold old (IsStanding seen.name head entries seen.end seen.gate rest)
repairing-stands seen found old is h =
    let r : Rest seen h.0 old = rest_of seen h.0 old (subst (λ (f : InspectedLog). IfTold old (IsFound f h.0)) (sym is) h.1) in
    (seen.head, h.0, r.rest, r.behind, r.stands)

pub repairing-images : (seen found : InspectedLog) (entries : List (List ℕ)) (old new : Option History) → seen ≡ found
    → ((head : LogHead) (entries : List (List ℕ)) (rest : List ℕ) → seen.behind ≡ length rest → IfTold old (IsDurable seen.name head entries seen.end seen.gate rest) → EachImage (λ _ image. IsLogFile (image seen.name) head entries × OthersStay seen.name old image) old new)
    → IfTold old (IsFoundKept found entries) → EachImage (λ _ image. IsLogFile (image found.name) found.head entries × OthersStay found.name old image) old new
repairing-images seen found entries old new is each h =
    let r : KeptRest seen entries old = kept_rest_of seen entries old (subst (λ (f : InspectedLog). IfTold old (IsFoundKept f entries)) (sym is) h) in
    subst (λ (f : InspectedLog). EachImage (λ _ image. IsLogFile (image f.name) f.head entries × OthersStay f.name old image) old new) is
    (each seen.head entries r.rest r.behind r.kept)

pub repairing-others_stay : (seen found : InspectedLog) (old new : Option History) → seen ≡ found → EachImage (λ _ image. OthersStay seen.name old image) old new → EachImage (λ _ image. OthersStay found.name old image) old new
repairing-others_stay seen found old new is each = subst (λ (f : InspectedLog). EachImage (λ _ image. OthersStay f.name old image) old new) is each

-- after Ok

abbrev at_rest : InspectedLog → LogState
at_rest found = record { name = found.name; head = found.head; end = found.end; count = found.count; room = 0 }

framed : (found : InspectedLog) (entries : List (List ℕ)) (old : Option History) → IfTold old (IsFound found entries) → IfTold old (λ _. Frame found.head entries found.end × (found.count ≡ length entries))
framed found entries old h = if_told-map _ _ old (λ disk f. (record { end_is = f.stands.end_is; head_fits = f.stands.head_fits; entries_fit = f.stands.entries_fit }, f.count)) h

repaired : (found : InspectedLog) (entries : List (List ℕ)) (old new : Option History) → SameButFor found.name old new → IfTold old (IsFound found entries)
    → IfTold new (λ now. reading (now found.name) ≡ Some (log_text found.head entries)) → Reads (at_rest found) entries new
repaired found entries old new same h r =
    if_told-both _ _ _ new (λ disk f s. record { file = s; end = f.0.end_is; count = f.1; head_fits = f.0.head_fits; entries_fit = f.0.entries_fit })
    (carried (Frame found.head entries found.end × (found.count ≡ length entries)) found.name old new same (framed found entries old h)) r

pub repaired-reads : (seen found : InspectedLog) (log : LogState) (entries : List (List ℕ)) (old new : Option History) → seen ≡ found → log ≡ at_rest seen → SameButFor seen.name old new
    → ((head : LogHead) (entries : List (List ℕ)) (rest : List ℕ) → seen.behind ≡ length rest → IfTold old (IsStanding seen.name head entries seen.end seen.gate rest) → IfTold new (λ now. reading (now seen.name) ≡ Some (log_text head entries)))
    → IfTold old (IsFound found entries) → Reads log entries new
repaired-reads seen found log entries old new is log_is same reads h =
    let f : IfTold old (IsFound seen entries) = subst (λ (f : InspectedLog). IfTold old (IsFound f entries)) (sym is) h in
    let r : Rest seen entries old = rest_of seen entries old f in
    subst (λ (l : LogState). Reads l entries new) (sym log_is) (repaired seen entries old new same f (reads seen.head entries r.rest r.behind r.stands))

pub repaired-holds : (seen found : InspectedLog) (log : LogState) (entries : List (List ℕ)) (old new : Option History) → seen ≡ found → log ≡ at_rest seen → SameButFor seen.name old new
    → ((head : LogHead) (entries : List (List ℕ)) (rest : List ℕ) → seen.behind ≡ length rest → IfTold old (IsStanding seen.name head entries seen.end seen.gate rest) → IfTold new (λ now. reading (now seen.name) ≡ Some (log_text head entries)))
    → ((head : LogHead) (entries : List (List ℕ)) (rest : List ℕ) → seen.behind ≡ length rest → IfTold old (IsDurable seen.name head entries seen.end seen.gate rest) → IfTold new (λ now. Keeps (now seen.name) (log_text head entries)))
    → IfTold old (IsFoundKept found entries) → Holds log entries new
repaired-holds seen found log entries old new is log_is same reads keeps h =
    let k : IfTold old (IsFoundKept seen entries) = subst (λ (f : InspectedLog). IfTold old (IsFoundKept f entries)) (sym is) h in
    let f : IfTold old (IsFound seen entries) = found-kept seen entries old k in
    let r : Rest seen entries old = rest_of seen entries old f in
    let q : KeptRest seen entries old = kept_rest_of seen entries old k in
    subst (λ (l : LogState). Holds l entries new) (sym log_is)
    (if_told-both _ _ _ new (λ disk s t. record { reads = s; keeps = t })
    (repaired seen entries old new same f (reads seen.head entries r.rest r.behind r.stands))
    (keeps seen.head entries q.rest q.behind q.kept))

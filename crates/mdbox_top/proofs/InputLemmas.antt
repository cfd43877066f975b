-- How the commands end that read standard input.
use Rattle.std.specs.Prelude.{◌≡◌, ◌≤◌, ◌<◌, ◌+◌, ℕ, List, [], ◌∷◌, ◌++◌, length, refl, Option, Some, None, IfSome, IfErr, Result, Ok, Err, OnOk, OnErr, ◌⊎◌}
use Rattle.std.proofs.Common.{sym, ◌∙◌, ap, subst, inl, inr, append-nil, length-append, arith}
use Rattle.mdbox_base.specs.Streams.{Appended, Rose, Taken, IsAtEnd}
use Rattle.model_logs.proofs.LogFileLemmas.{not_both as log_not_damaged}
use Rattle.model_storage.proofs.ScanLemmas.{file_not_refused}
use Rattle.model_storage.specs.StorageFile.{ScanGives}
use Rattle.model_storage.specs.declared.places.MessageAt.{MessageAt}
use Rattle.model_storage.specs.declared.places.ScanError.{ScanError}
use Rattle.model_storage.specs.declared.places.ScanError.TheVariants as scan
use Rattle.piece_writer.specs.Pieces.{WritesPrefix, IsPrintError}
use Rattle.piece_writer.specs.declared.error.PrintError.{PrintError}
use Rattle.piece_writer.specs.declared.error.PrintError.TheVariants as print
use Rattle.request_text.specs.Outcomes.{status_of}
use Rattle.request_text.specs.declared.outcome.InputRefusal.{InputRefusal}
use Rattle.request_text.specs.declared.outcome.InputRefusal.TheVariants as refusal
use Rattle.request_text.specs.declared.outcome.Outcome.{Outcome}
use Rattle.request_text.specs.declared.outcome.Outcome.TheVariants as outcome
use Rattle.mdbox_top.specs.InputRun.{scan_outcome, printed_outcome, DumpPrints, DumpRefuses, LogDumpPrints, LogDumpRefuses, OfInput, InputOutcome, InputStatus, ShowsText, IsOneOf}

-- if the source is modelled, this was left of it
abbrev pub Told : Option (List ℕ) → List ℕ → Type 0
Told left input = IfSome left (λ all. all ≡ input)

-- what was read to its end is what was left
pub read_told : (old new : Option (List ℕ)) (text : List ℕ) → Taken old text new → IsAtEnd new → Told old text
read_told old None text t e = subst (λ (o : Option (List ℕ)). Told o text) (sym t) tt
read_told old (Some rest) text t e = subst (λ (o : Option (List ℕ)). Told o text) (sym t) (ap (λ (o : List ℕ). text ++ o) e ∙ append-nil text)

-- more was left than the octets taken
pub long_told : (old new : Option (List ℕ)) (text : List ℕ) (limit : ℕ) → Taken old text new → length text ≡ limit + 1 → (input : List ℕ) × Told old input × (limit < length input)
long_told old None text limit t n = (text, subst (λ (o : Option (List ℕ)). Told o text) (sym t) tt, omega (arith, n))
long_told old (Some rest) text limit t n = (text ++ rest, subst (λ (o : Option (List ℕ)). Told o (text ++ rest)) (sym t) refl, omega (arith, n, length-append text rest))

pub of_told : (P : List ℕ → Type 0) (left : Option (List ℕ)) (file : List ℕ) → Told left file → OfInput (Some file) P → OfInput left P
of_told P left file t a = (a.0, subst (Told left) a.1 t, a.2)

-- the end of a run on a known input is that of one on a source that held it
pub input_told : (P : List ℕ → List ℕ → Type 0) (R : List ℕ → InputRefusal → Type 0) (left h k : Option (List ℕ)) (file : List ℕ) (o : Outcome) → Told left file → InputOutcome P R (Some file) h k o → InputOutcome P R left h k o
input_told P R left h k file outcome.Done t e = (e.0, of_told (λ (input : List ℕ). P input e.0) left file t e.1, e.2)
input_told P R left h k file (outcome.InputRefused why) t e = (of_told (λ (input : List ℕ). R input why) left file t e.0, e.1)
input_told P R left h k file outcome.NoMemory t e = elim e [
  | inl same ↦ inl same
  | inr part ↦ inr (part.0, of_told (λ (input : List ℕ). P input part.0) left file t part.1, part.2)
]
input_told P R left h k file outcome.ReadFault t e = e
input_told P R left h k file outcome.WriteFault t e = (e.0, of_told (λ (input : List ℕ). P input e.0) left file t e.1, e.2)
input_told P R left h k file outcome.No t e = absurd e
input_told P R left h k file outcome.Usage t e = absurd e
input_told P R left h k file outcome.SessionFull t e = absurd e
input_told P R left h k file outcome.DiskFault t e = absurd e
input_told P R left h k file (outcome.StoreRefused why) t e = absurd e

-- no input is both printed and refused
abbrev pub AreApart : (List ℕ → List ℕ → Type 0) → (List ℕ → InputRefusal → Type 0) → Type 0
AreApart P R = (all text : List ℕ) (why : InputRefusal) → P all text → R all why → ⊥

pub dumps_apart : AreApart DumpPrints DumpRefuses
dumps_apart all text (refusal.TooLong n) p r = omega (arith, p.0, r.1)
dumps_apart all text (refusal.File why) p r = file_not_refused all p.1.0 p.1.1 _ p.1.2 r.1
dumps_apart all text (refusal.Log place) p r = r
dumps_apart all text (refusal.Script place) p r = r

pub log_dumps_apart : AreApart LogDumpPrints LogDumpRefuses
log_dumps_apart all text (refusal.TooLong n) p r = omega (arith, p.0, r.1)
log_dumps_apart all text (refusal.File why) p r = r
log_dumps_apart all text (refusal.Log place) p r = log_not_damaged None all p.1.0 p.1.1 place p.1.2 tt r.1
log_dumps_apart all text (refusal.Script place) p r = r

refused_status : (P : List ℕ → List ℕ → Type 0) (R : List ℕ → InputRefusal → Type 0) (all : List ℕ) (h k : Option (List ℕ)) (o : Outcome) (why : InputRefusal) → AreApart P R → R all why → InputOutcome P R (Some all) h k o → IsOneOf (4 ∷ 5 ∷ 7 ∷ []) (status_of o)
refused_status P R all h k outcome.Done why apart r e = absurd (apart all e.0 why (subst (λ (input : List ℕ). P input e.0) (sym e.1.1) e.1.2) r)
refused_status P R all h k (outcome.InputRefused other) why apart r e = inl refl
refused_status P R all h k outcome.NoMemory why apart r e = inr (inl refl)
refused_status P R all h k outcome.ReadFault why apart r e = inr (inr (inl refl))
refused_status P R all h k outcome.WriteFault why apart r e = absurd (apart all e.0 why (subst (λ (input : List ℕ). P input e.0) (sym e.1.1) e.1.2) r)
refused_status P R all h k outcome.No why apart r e = absurd e
refused_status P R all h k outcome.Usage why apart r e = absurd e
refused_status P R all h k outcome.SessionFull why apart r e = absurd e
refused_status P R all h k outcome.DiskFault why apart r e = absurd e
refused_status P R all h k (outcome.StoreRefused other) why apart r e = absurd e

printed_status : (P : List ℕ → List ℕ → Type 0) (R : List ℕ → InputRefusal → Type 0) (all : List ℕ) (h k : Option (List ℕ)) (o : Outcome) (text : List ℕ) → AreApart P R → P all text → InputOutcome P R (Some all) h k o → IsOneOf (0 ∷ 5 ∷ 7 ∷ 8 ∷ []) (status_of o)
printed_status P R all h k outcome.Done text apart p e = inl refl
printed_status P R all h k (outcome.InputRefused why) text apart p e = absurd (apart all text why p (subst (λ (input : List ℕ). R input why) (sym e.0.1) e.0.2))
printed_status P R all h k outcome.NoMemory text apart p e = inr (inl refl)
printed_status P R all h k outcome.ReadFault text apart p e = inr (inr (inl refl))
printed_status P R all h k outcome.WriteFault text apart p e = inr (inr (inr (inl refl)))
printed_status P R all h k outcome.No text apart p e = absurd e
printed_status P R all h k outcome.Usage text apart p e = absurd e
printed_status P R all h k outcome.SessionFull text apart p e = absurd e
printed_status P R all h k outcome.DiskFault text apart p e = absurd e
printed_status P R all h k (outcome.StoreRefused why) text apart p e = absurd e

pub input_status : (P : List ℕ → List ℕ → Type 0) (R : List ℕ → InputRefusal → Type 0) (left h k : Option (List ℕ)) (o : Outcome) → AreApart P R → InputOutcome P R left h k o → InputStatus P R left (status_of o)
input_status P R None h k o apart e = tt
input_status P R (Some all) h k o apart e = (λ why r. refused_status P R all h k o why apart r e, λ text p. printed_status P R all h k o text apart p e)

pub shows_status : (text : List ℕ) (h k : Option (List ℕ)) (o : Outcome) → ShowsText text h k o → IsOneOf (0 ∷ 8 ∷ []) (status_of o)
shows_status text h k outcome.Done e = inl refl
shows_status text h k outcome.WriteFault e = inr (inl refl)
shows_status text h k outcome.NoMemory e = absurd e
shows_status text h k outcome.ReadFault e = absurd e
shows_status text h k outcome.No e = absurd e
shows_status text h k outcome.Usage e = absurd e
shows_status text h k outcome.SessionFull e = absurd e
shows_status text h k outcome.DiskFault e = absurd e
shows_status text h k (outcome.StoreRefused why) e = absurd e
shows_status text h k (outcome.InputRefused why) e = absurd e

pub shows_no_fault : (text : List ℕ) (h k : Option (List ℕ)) (o : Outcome) → ShowsText text h k o → o ≡ outcome.DiskFault → ⊥
shows_no_fault text h k o s e = subst (ShowsText text h k) e s

pub input_no_fault : (P : List ℕ → List ℕ → Type 0) (R : List ℕ → InputRefusal → Type 0) (left h k : Option (List ℕ)) (o : Outcome) → InputOutcome P R left h k o → o ≡ outcome.DiskFault → ⊥
input_no_fault P R left h k o s e = subst (InputOutcome P R left h k) e s

-- a scan that gave no places
abbrev pub no_places : ScanError → Result (List MessageAt) ScanError
no_places error = Err error

pub scan_ends : (file : List ℕ) (h : Option (List ℕ)) (error : ScanError) → length file ≤ 268435456 → (no_places error ≡ Err scan.NoMemory) ⊎ ScanGives file (Err error) → InputOutcome DumpPrints DumpRefuses (Some file) h h (scan_outcome error)
scan_ends file h scan.NoMemory short g = inl refl
scan_ends file h scan.BadHeader short g = elim g [ inl e ↦ absurd (cc e) | inr r ↦ ((file, refl, (short, r)), refl) ]
scan_ends file h (scan.HeaderSize size) short g = elim g [ inl e ↦ absurd (cc e) | inr r ↦ ((file, refl, (short, r)), refl) ]
scan_ends file h (scan.Truncated offset) short g = elim g [ inl e ↦ absurd (cc e) | inr r ↦ ((file, refl, (short, r)), refl) ]
scan_ends file h (scan.BadMessage offset) short g = elim g [ inl e ↦ absurd (cc e) | inr r ↦ ((file, refl, (short, r)), refl) ]

pub scan_no_read : (error : ScanError) → scan_outcome error ≡ outcome.ReadFault → ⊥
scan_no_read scan.NoMemory e = cc e
scan_no_read scan.BadHeader e = cc e
scan_no_read (scan.HeaderSize size) e = cc e
scan_no_read (scan.Truncated offset) e = cc e
scan_no_read (scan.BadMessage offset) e = cc e

pub scan_no_write : (error : ScanError) → scan_outcome error ≡ outcome.WriteFault → ⊥
scan_no_write scan.NoMemory e = cc e
scan_no_write scan.BadHeader e = cc e
scan_no_write (scan.HeaderSize size) e = cc e
scan_no_write (scan.Truncated offset) e = cc e
scan_no_write (scan.BadMessage offset) e = cc e

-- a text of the input was printed, or a prefix of it
pub printed_ends : (P : List ℕ → List ℕ → Type 0) (R : List ℕ → InputRefusal → Type 0) (file : List ℕ) (h k : Option (List ℕ)) (r : Result (Unit {0}) PrintError)
    → OnOk r ((text : List ℕ) × P file text × Appended h text k) → OnErr r ((text : List ℕ) × P file text × WritesPrefix h [] text k) → InputOutcome P R (Some file) h k (printed_outcome r)
printed_ends P R file h k (Ok done) ok err = (ok.0, (file, refl, ok.1), ok.2)
printed_ends P R file h k (Err print.NoMemory) ok err = inr (err.0, (file, refl, err.1), err.2)
printed_ends P R file h k (Err print.WriteFault) ok err = (err.0, (file, refl, err.1), err.2)

pub printed_no_read : (r : Result (Unit {0}) PrintError) → printed_outcome r ≡ outcome.ReadFault → ⊥
printed_no_read (Ok done) e = cc e
printed_no_read (Err print.NoMemory) e = cc e
printed_no_read (Err print.WriteFault) e = cc e

pub printed_cause : (r : Result (Unit {0}) PrintError) (f g : ℕ) → IfErr r (IsPrintError f g) → printed_outcome r ≡ outcome.WriteFault → Rose f g
printed_cause (Ok done) f g c e = absurd (cc e)
printed_cause (Err print.NoMemory) f g c e = absurd (cc e)
printed_cause (Err print.WriteFault) f g c e = c

-- unless it is a write fault, no fault was counted
pub printed_quiet : (r : Result (Unit {0}) PrintError) (f g : ℕ) → OnOk r (g ≡ f) → IfErr r (IsPrintError f g) → (printed_outcome r ≡ outcome.WriteFault → ⊥) → g ≡ f
printed_quiet (Ok done) f g ok c other = ok
printed_quiet (Err print.NoMemory) f g ok c other = c
printed_quiet (Err print.WriteFault) f g ok c other = absurd (other refl)

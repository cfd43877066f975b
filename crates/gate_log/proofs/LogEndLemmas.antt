-- The end of a log that was found, in steps.
use Rattle.std.specs.Prelude.{OnOk, Result, Ok, Err}
use Rattle.std.proofs.Common.{◌≡◌, inl, inr, ℕ, ◌+◌, List, [], ◌∷◌, ◌++◌, length, Option, Some, None, All, refl, sym, ◌∙◌, subst, ap, append_assoc, length-append, arith}
use Rattle.disk_model.specs.Disk.{Files, DiskState, History, IfTold, EachImage, OthersStay, SameButFor, Keeps, reading}
use Rattle.disk_model.specs.declared.name.FileName.{FileName}
use Rattle.disk_model.proofs.MomentLemmas.{if_told-map, if_told-both, each_image-map, each_image-then}
use Rattle.disk_model.proofs.OneFileLemmas.{IsAlong, Along, along-begins, one_file-then, others-back}
use Rattle.model_logs.specs.declared.log_head.LogHead.{LogHead}
use Rattle.model_logs.specs.LogFile.{HeadFits, EntryFits, log_front, EndsLog, IsLogFile}
use Rattle.gate_log.specs.Log.{IsStanding, IsDurable, ReadsParts, KeepsParts, BeginsWith, IsOneBetween, log_text}

-- of each image, where something is known where the disk tells
pub each_image-if : (P Q : ℕ → Files → Type 0) (R : DiskState → Type 0) (old new : Option History) → IfTold old R → ((disk : DiskState) → R disk → (m : ℕ) (image : Files) → P m image → Q m image) → EachImage P old new → EachImage Q old new
each_image-if P Q R None new r f each = each
each_image-if P Q R (Some old) new r f each = each_image-map P Q (Some old) new (f old.now r) each

-- what doesn't speak of the state goes on to hold
pub carried : (F : Type 0) (name : FileName) (old new : Option History) → SameButFor name old new → IfTold old (λ _. F) → IfTold new (λ _. F)
carried F name None new same f = subst (λ (h : Option History). IfTold h (λ _. F)) (sym same) tt
carried F name (Some old) None same f = elim same [ ]
carried F name (Some old) (Some new) same f = f

pub record Frame (head : LogHead) (entries : List (List ℕ)) (end : ℕ) : Type 0 where
  pub end_is : end ≡ length (log_front head entries)
  pub head_fits : HeadFits head
  pub entries_fit : All EntryFits entries

framed : (name : FileName) (head : LogHead) (entries : List (List ℕ)) (end gate : ℕ) (behind : List ℕ) (old : Option History) → IfTold old (IsStanding name head entries end gate behind) → IfTold old (λ _. Frame head entries end)
framed name head entries end gate behind old h = if_told-map _ _ old (λ disk s. record { end_is = s.end_is; head_fits = s.head_fits; entries_fit = s.entries_fit }) h

pub stands-kept : (name : FileName) (head : LogHead) (entries : List (List ℕ)) (end gate : ℕ) (behind : List ℕ) (old : Option History) → IfTold old (IsDurable name head entries end gate behind) → IfTold old (IsStanding name head entries end gate behind)
stands-kept name head entries end gate behind old h = if_told-map _ _ old (λ disk k. k.stands) h

-- the log that a gate ends
log_with : (head : LogHead) (entries : List (List ℕ)) (gate : ℕ) (behind : List ℕ) (octets : Option (List ℕ)) → HeadFits head → All EntryFits entries → EndsLog gate behind → octets ≡ Some (log_front head entries ++ gate ∷ behind) → IsLogFile octets head entries
log_with head entries gate behind octets hf ef ends e =
    subst (λ (o : Option (List ℕ)). IsLogFile o head entries) (sym e) (record { head_fits = hf; entries_fit = ef; gate = gate; behind = behind; spelled = refl; ends = ends })

-- the last gate

pub last-reads : (name : FileName) (head : LogHead) (entries : List (List ℕ)) (end gate : ℕ) (old : Option History) → IfTold old (IsStanding name head entries end gate []) → IfTold old (λ now. ReadsParts end (log_front head entries) (gate ∷ []) (now name))
last-reads name head entries end gate old h = if_told-map _ _ old (λ disk s. record { reads = s.reads; size_is = s.end_is }) h

pub last-keeps : (name : FileName) (head : LogHead) (entries : List (List ℕ)) (end gate : ℕ) (old : Option History) → IfTold old (IsDurable name head entries end gate []) → IfTold old (λ now. KeepsParts end (log_front head entries) (gate ∷ []) (now name))
last-keeps name head entries end gate old h = if_told-map _ _ old (λ disk k. record { keeps = k.keeps; size_is = k.stands.end_is }) h

-- with nothing done
pub still-images : (name : FileName) (head : LogHead) (entries : List (List ℕ)) (end gate : ℕ) (behind : List ℕ) (old : Option History) → IfTold old (IsDurable name head entries end gate behind)
    → Along name (λ octets. IsLogFile octets head entries) old old
still-images name head entries end gate behind old h =
    along-begins name (λ octets. IsLogFile octets head entries) old
    (if_told-map _ _ old (λ disk k octets leaves. log_with head entries gate behind octets k.stands.head_fits k.stands.entries_fit k.stands.ends ((k.keeps.leaves octets).0 leaves)) h)

-- with the gate being written
pub gate-images : (name : FileName) (head : LogHead) (entries : List (List ℕ)) (end gate : ℕ) (old new : Option History) → IfTold old (IsDurable name head entries end gate [])
    → EachImage (λ _ image. IsOneBetween (log_front head entries) [] (image name) × OthersStay name old image) old new
    → EachImage (IsAlong name (λ octets. IsLogFile octets head entries) old) old new
gate-images name head entries end gate old new h each =
    each_image-if _ _ (IsDurable name head entries end gate []) old new h
    (λ disk k m image is. (log_with head entries is.0.0 [] (image name) k.stands.head_fits k.stands.entries_fit (inr refl) is.0.1, is.1)) each

-- what stands behind the last gate is cut off

cut_text : (head : LogHead) (entries : List (List ℕ)) (gate : ℕ) (behind : List ℕ) → (log_front head entries ++ gate ∷ []) ++ behind ≡ log_front head entries ++ gate ∷ behind
cut_text head entries gate behind = append_assoc (log_front head entries) (gate ∷ []) behind

cut_size : (head : LogHead) (entries : List (List ℕ)) (end gate : ℕ) → end ≡ length (log_front head entries) → end + 1 ≡ length (log_front head entries ++ gate ∷ [])
cut_size head entries end gate e = omega (arith, e, length-append (log_front head entries) (gate ∷ []))

pub cut-reads : (name : FileName) (head : LogHead) (entries : List (List ℕ)) (end gate : ℕ) (behind : List ℕ) (old : Option History) → IfTold old (IsStanding name head entries end gate behind)
    → IfTold old (λ now. ReadsParts (end + 1) (log_front head entries ++ gate ∷ []) behind (now name))
cut-reads name head entries end gate behind old h =
    if_told-map _ _ old (λ disk s. record { reads = s.reads ∙ ap Some (sym (cut_text head entries gate behind)); size_is = cut_size head entries end gate s.end_is }) h

pub cut-keeps : (name : FileName) (head : LogHead) (entries : List (List ℕ)) (end gate : ℕ) (behind : List ℕ) (old : Option History) → IfTold old (IsDurable name head entries end gate behind)
    → IfTold old (λ now. KeepsParts (end + 1) (log_front head entries ++ gate ∷ []) behind (now name))
cut-keeps name head entries end gate behind old h =
    if_told-map _ _ old (λ disk k. record { keeps = subst (Keeps (disk name)) (sym (cut_text head entries gate behind)) k.keeps; size_is = cut_size head entries end gate k.stands.end_is }) h

-- what is behind an open last gate is nothing
closed_where_more : (gate : ℕ) (behind : List ℕ) → EndsLog gate behind → (length behind ≡ 0 → ⊥) → gate ≡ 1 → ⊥
closed_where_more gate behind (inl closed) more e = closed e
closed_where_more gate behind (inr empty) more e = more (ap length empty)

pub cut-images : (name : FileName) (head : LogHead) (entries : List (List ℕ)) (end gate : ℕ) (behind : List ℕ) (old new : Option History) → (length behind ≡ 0 → ⊥) → IfTold old (IsDurable name head entries end gate behind)
    → EachImage (λ _ image. BeginsWith (log_front head entries ++ gate ∷ []) (image name) × OthersStay name old image) old new
    → EachImage (IsAlong name (λ octets. IsLogFile octets head entries) old) old new
cut-images name head entries end gate behind old new more h each =
    each_image-if _ _ (IsDurable name head entries end gate behind) old new h
    (λ disk k m image is. (log_with head entries gate is.0.0 (image name) k.stands.head_fits k.stands.entries_fit (inl (closed_where_more gate behind k.stands.ends more)) (is.0.1 ∙ ap Some (cut_text head entries gate is.0.0)), is.1)) each

-- after the cut the log stands with nothing behind its gate
pub cut-stands : (name : FileName) (head : LogHead) (entries : List (List ℕ)) (end gate : ℕ) (behind : List ℕ) (old mid : Option History) → SameButFor name old mid → IfTold old (IsStanding name head entries end gate behind)
    → IfTold mid (λ now. reading (now name) ≡ Some (log_front head entries ++ gate ∷ [])) → IfTold mid (IsStanding name head entries end gate [])
cut-stands name head entries end gate behind old mid same h r =
    if_told-both _ _ _ mid (λ disk f e. record { reads = e; end_is = f.end_is; head_fits = f.head_fits; entries_fit = f.entries_fit; ends = inr refl })
    (carried (Frame head entries end) name old mid same (framed name head entries end gate behind old h)) r

pub cut-stands_kept : (name : FileName) (head : LogHead) (entries : List (List ℕ)) (end gate : ℕ) (behind : List ℕ) (old mid : Option History) → SameButFor name old mid → IfTold old (IsDurable name head entries end gate behind)
    → IfTold mid (λ now. reading (now name) ≡ Some (log_front head entries ++ gate ∷ [])) → IfTold mid (λ now. Keeps (now name) (log_front head entries ++ gate ∷ [])) → IfTold mid (IsDurable name head entries end gate [])
cut-stands_kept name head entries end gate behind old mid same h r k =
    if_told-both _ _ _ mid (λ disk s kept. record { stands = s; keeps = kept }) (cut-stands name head entries end gate behind old mid same (stands-kept name head entries end gate behind old h) r) k

-- two runs, one after the other
pub then-images : (name : FileName) (head : LogHead) (entries : List (List ℕ)) (old mid new : Option History)
    → EachImage (IsAlong name (λ octets. IsLogFile octets head entries) old) old mid → SameButFor name old mid → EachImage (IsAlong name (λ octets. IsLogFile octets head entries) mid) mid new
    → EachImage (IsAlong name (λ octets. IsLogFile octets head entries) old) old new
then-images name head entries old mid new first same second = one_file-then name (λ octets. IsLogFile octets head entries) old mid new (record { each = first; same = same }) second

pub then-others : (name : FileName) (old mid new : Option History) → EachImage (λ _ image. OthersStay name old image) old mid → SameButFor name old mid → EachImage (λ _ image. OthersStay name mid image) mid new
    → EachImage (λ _ image. OthersStay name old image) old new
then-others name old mid new first same second =
    each_image-then (λ _ image. OthersStay name old image) old mid new first (each_image-map (λ _ image. OthersStay name mid image) (λ _ image. OthersStay name old image) mid new (λ m image is. others-back name old mid image same is) second)

-- the clauses of the calls, where they went well

pub gate-reads_then : {T E : Type 0} (name : FileName) (end gate closed : ℕ) (old new : Option History) (r : Result T E)
    → OnOk r ((front : List ℕ) (before : ℕ) (rest : List ℕ) → IfTold old (λ now. ReadsParts end front (before ∷ rest) (now name)) → IfTold new (λ now. reading (now name) ≡ Some (front ++ closed ∷ rest)))
    → OnOk r ((head : LogHead) (entries : List (List ℕ)) → IfTold old (IsStanding name head entries end gate []) → IfTold new (λ now. reading (now name) ≡ Some (log_front head entries ++ closed ∷ [])))
gate-reads_then name end gate closed old new (Ok v) f = λ head entries h. f (log_front head entries) gate [] (last-reads name head entries end gate old h)
gate-reads_then name end gate closed old new (Err e) f = tt

pub gate-keeps_then : {T E : Type 0} (name : FileName) (end gate closed : ℕ) (old new : Option History) (r : Result T E)
    → OnOk r ((front : List ℕ) (before : ℕ) (rest : List ℕ) → IfTold old (λ now. KeepsParts end front (before ∷ rest) (now name)) → IfTold new (λ now. Keeps (now name) (front ++ closed ∷ rest)))
    → OnOk r ((head : LogHead) (entries : List (List ℕ)) → IfTold old (IsDurable name head entries end gate []) → IfTold new (λ now. Keeps (now name) (log_front head entries ++ closed ∷ [])))
gate-keeps_then name end gate closed old new (Ok v) f = λ head entries h. f (log_front head entries) gate [] (last-keeps name head entries end gate old h)
gate-keeps_then name end gate closed old new (Err e) f = tt

pub cut-reads_then : {T E : Type 0} (name : FileName) (end gate behind : ℕ) (old mid new : Option History) (r : Result T E) → SameButFor name old mid
    → ((front rest : List ℕ) → IfTold old (λ now. ReadsParts (end + 1) front rest (now name)) → IfTold mid (λ now. reading (now name) ≡ Some front))
    → OnOk r ((head : LogHead) (entries : List (List ℕ)) → IfTold mid (IsStanding name head entries end gate []) → IfTold new (λ now. reading (now name) ≡ Some (log_text head entries)))
    → OnOk r ((head : LogHead) (entries : List (List ℕ)) (rest : List ℕ) → behind ≡ length rest → IfTold old (IsStanding name head entries end gate rest) → IfTold new (λ now. reading (now name) ≡ Some (log_text head entries)))
cut-reads_then name end gate behind old mid new (Ok v) same cut f =
    λ head entries rest l h. f head entries (cut-stands name head entries end gate rest old mid same h (cut (log_front head entries ++ gate ∷ []) rest (cut-reads name head entries end gate rest old h)))
cut-reads_then name end gate behind old mid new (Err e) same cut f = tt

pub cut-kept_mid : (name : FileName) (head : LogHead) (entries : List (List ℕ)) (end gate : ℕ) (rest : List ℕ) (old mid : Option History) → SameButFor name old mid
    → ((front rest : List ℕ) → IfTold old (λ now. ReadsParts (end + 1) front rest (now name)) → IfTold mid (λ now. reading (now name) ≡ Some front))
    → ((front rest : List ℕ) → IfTold old (λ now. KeepsParts (end + 1) front rest (now name)) → IfTold mid (λ now. Keeps (now name) front))
    → IfTold old (IsDurable name head entries end gate rest) → IfTold mid (IsDurable name head entries end gate [])
cut-kept_mid name head entries end gate rest old mid same cut kept h =
    cut-stands_kept name head entries end gate rest old mid same h
    (cut (log_front head entries ++ gate ∷ []) rest (cut-reads name head entries end gate rest old (stands-kept name head entries end gate rest old h)))
    (kept (log_front head entries ++ gate ∷ []) rest (cut-keeps name head entries end gate rest old h))

pub cut-keeps_then : {T E : Type 0} (name : FileName) (end gate behind : ℕ) (old mid new : Option History) (r : Result T E) → SameButFor name old mid
    → ((front rest : List ℕ) → IfTold old (λ now. ReadsParts (end + 1) front rest (now name)) → IfTold mid (λ now. reading (now name) ≡ Some front))
    → ((front rest : List ℕ) → IfTold old (λ now. KeepsParts (end + 1) front rest (now name)) → IfTold mid (λ now. Keeps (now name) front))
    → OnOk r ((head : LogHead) (entries : List (List ℕ)) → IfTold mid (IsDurable name head entries end gate []) → IfTold new (λ now. Keeps (now name) (log_text head entries)))
    → OnOk r ((head : LogHead) (entries : List (List ℕ)) (rest : List ℕ) → behind ≡ length rest → IfTold old (IsDurable name head entries end gate rest) → IfTold new (λ now. Keeps (now name) (log_text head entries)))
cut-keeps_then name end gate behind old mid new (Ok v) same cut kept f = λ head entries rest l h. f head entries (cut-kept_mid name head entries end gate rest old mid same cut kept h)
cut-keeps_then name end gate behind old mid new (Err e) same cut kept f = tt

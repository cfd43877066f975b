-- A log that was read, as it stands, and what a crash leaves of it while it is repaired.
use Rattle.std.proofs.Common.{◌≡◌, ℕ, ◌+◌, List, ◌∷◌, ◌++◌, length, get_or, Option, Some, sym, ◌∙◌, subst, ap, length-append, arith}
use Rattle.std.proofs.Math.Seq.{get_or-append_seam}
use Rattle.std.proofs.lemmas.Option.{same_Some}
use Rattle.disk_model.specs.Disk.{FileState, DiskState, History, MayLeave, IfTold, EachImage, OthersStay, Keeps, reading, IsIdle}
use Rattle.disk_model.specs.declared.name.FileName.{FileName}
use Rattle.disk_model.proofs.MomentLemmas.{if_told-all, if_told-map, if_told-both}
use Rattle.disk_model.proofs.OneFileLemmas.{IsAlong, Along, one_file-then}
use Rattle.disk_model.proofs.OtherFileLemmas.{apart_images}
use Rattle.model_logs.specs.declared.log_head.LogHead.{LogHead}
use Rattle.model_logs.specs.LogFile.{log_front, log_end, EndsLog, IsLog, IsLogFile}
use Rattle.model_logs.proofs.LogFileLemmas.{front_length, one_log}
use Rattle.gate_log.specs.Reading.{IsReading}
use Rattle.gate_log.specs.declared.read.LogRead.{LogRead}
use Rattle.gate_log.specs.State.{InspectedLog}
use Rattle.gate_log.specs.Log.{IsStanding, IsDurable, IsFound, IsFoundKept}
use Rattle.disk_model.proofs.IdleLemmas.{idle-on, idle-along}
use Rattle.gate_log.proofs.LogEndLemmas.{each_image-if, then-others}

-- where the last gate stands, which it is, and how much stands behind it

pub end-is : (octets : List ℕ) (head : LogHead) (entries : List (List ℕ)) (end : ℕ) → IsLog octets head entries → end ≡ log_end entries → end ≡ length (log_front head entries)
end-is octets head entries end l e = e ∙ sym (front_length head entries l.head_fits)

pub long-is : (octets : List ℕ) (head : LogHead) (entries : List (List ℕ)) (end : ℕ) (l : IsLog octets head entries) → end ≡ log_end entries → length octets ≡ end + 1 + length l.behind
long-is octets head entries end l e =
    let a : length octets ≡ length (log_front head entries) + length (l.gate ∷ l.behind) = ap length l.spelled ∙ length-append (log_front head entries) (l.gate ∷ l.behind) in
    omega (arith, a, end-is octets head entries end l e)

pub gate-is : (octets : List ℕ) (head : LogHead) (entries : List (List ℕ)) (end other : ℕ) (l : IsLog octets head entries) → end ≡ log_end entries → get_or octets end other ≡ l.gate
gate-is octets head entries end other l e =
    ap (λ (t : List ℕ). get_or t end other) l.spelled ∙ ap (λ (n : ℕ). get_or (log_front head entries ++ l.gate ∷ l.behind) n other) (end-is octets head entries end l e) ∙ get_or-append_seam (log_front head entries) l.gate l.behind other

pub read-log : (octets items : List ℕ) (head : LogHead) (read : LogRead) → IsReading octets read × (read.head ≡ head) → octets ≡ items → IsLog items head read.entries
read-log octets items head read r e = subst (λ (h : LogHead). IsLog items h read.entries) r.1 (subst (λ (o : List ℕ). IsLog o read.head read.entries) e r.0.log)

-- the disk, as it is repaired

standing : (name : FileName) (head : LogHead) (entries : List (List ℕ)) (octets : List ℕ) (end gate : ℕ) (disk : DiskState) (l : IsLog octets head entries) → end ≡ log_end entries → gate ≡ l.gate → reading (disk name) ≡ Some octets → IsStanding name head entries end gate l.behind disk
standing name head entries octets end gate disk l e g r = record {
  reads = r ∙ ap Some (l.spelled ∙ ap (λ (x : ℕ). log_front head entries ++ x ∷ l.behind) (sym g));
  end_is = end-is octets head entries end l e;
  head_fits = l.head_fits;
  entries_fit = l.entries_fit;
  ends = subst (λ (x : ℕ). EndsLog x l.behind) (sym g) l.ends;
}

stands-mid : (name : FileName) (head : LogHead) (entries : List (List ℕ)) (octets : List ℕ) (end gate : ℕ) (old mid : Option History) (l : IsLog octets head entries) → end ≡ log_end entries → gate ≡ l.gate → IsIdle old mid
    → IfTold old (λ now. reading (now name) ≡ Some octets) → IfTold mid (IsStanding name head entries end gate l.behind)
stands-mid name head entries octets end gate old mid l e g idle r = if_told-map _ _ mid (λ disk s. standing name head entries octets end gate disk l e g s) (idle-on _ old mid idle r)

same_octets : (f : FileState) (a b : List ℕ) → Keeps f a → reading f ≡ Some b → a ≡ b
same_octets f a b k r = same_Some _ _ (sym k.reads ∙ r)

kept-mid : (name : FileName) (head : LogHead) (entries : List (List ℕ)) (octets kept : List ℕ) (end gate : ℕ) (old mid : Option History) (l : IsLog octets head entries) → end ≡ log_end entries → gate ≡ l.gate → IsIdle old mid
    → IfTold old (λ now. reading (now name) ≡ Some octets) → IfTold old (λ now. Keeps (now name) kept) → IfTold mid (IsDurable name head entries end gate l.behind)
kept-mid name head entries octets kept end gate old mid l e g idle r k =
    if_told-both _ _ _ mid
    (λ disk s h. record {
      stands = standing name head entries octets end gate disk l e g s;
      keeps = subst (Keeps (disk name)) (same_octets (disk name) kept octets h s ∙ l.spelled ∙ ap (λ (x : ℕ). log_front head entries ++ x ∷ l.behind) (sym g)) h;
    })
    (idle-on _ old mid idle r) (idle-on _ old mid idle k)

-- what is found of it

pub found-mid : (found : InspectedLog) (entries : List (List ℕ)) (octets : List ℕ) (old mid : Option History) (l : IsLog octets found.head entries) → found.end ≡ log_end entries → found.count ≡ length entries → found.gate ≡ l.gate → found.behind ≡ length l.behind → IsIdle old mid
    → IfTold old (λ now. reading (now found.name) ≡ Some octets) → IfTold mid (IsFound found entries)
found-mid found entries octets old mid l e n g b idle r =
    if_told-map _ _ mid (λ disk s. record { count = n; rest = l.behind; behind = b; stands = s })
    (stands-mid found.name found.head entries octets found.end found.gate old mid l e g idle r)

pub found_kept-mid : (found : InspectedLog) (entries : List (List ℕ)) (octets kept : List ℕ) (old mid : Option History) (l : IsLog octets found.head entries) → found.end ≡ log_end entries → found.count ≡ length entries → found.gate ≡ l.gate → found.behind ≡ length l.behind → IsIdle old mid
    → IfTold old (λ now. reading (now found.name) ≡ Some octets) → IfTold old (λ now. Keeps (now found.name) kept) → IfTold mid (IsFoundKept found entries)
found_kept-mid found entries octets kept old mid l e n g b idle r k =
    if_told-map _ _ mid (λ disk s. record { count = n; rest = l.behind; behind = b; kept = s })
    (kept-mid found.name found.head entries octets kept found.end found.gate old mid l e g idle r k)

-- what each image has

log-leaves : (name : FileName) (head : LogHead) (entries : List (List ℕ)) (kept : List ℕ) (old : Option History) → IsLog kept head entries → IfTold old (λ now. Keeps (now name) kept) → IfTold old (λ disk. (octets : Option (List ℕ)) → MayLeave (disk name) octets → IsLogFile octets head entries)
log-leaves name head entries kept old l k = if_told-map _ _ old (λ disk h octets leaves. subst (λ (o : Option (List ℕ)). IsLogFile o head entries) (sym ((h.leaves octets).0 leaves)) l) k

pub idle-images : (name : FileName) (head : LogHead) (entries : List (List ℕ)) (kept : List ℕ) (old new : Option History) → IsIdle old new → IfTold old (λ now. Keeps (now name) kept) → IsLog kept head entries
    → EachImage (IsAlong name (λ octets. IsLogFile octets head entries) old) old new
idle-images name head entries kept old new idle k l = (idle-along name (λ octets. IsLogFile octets head entries) old new idle (log-leaves name head entries kept old l k)).each

repair-images : (name : FileName) (head : LogHead) (entries asked : List (List ℕ)) (octets kept : List ℕ) (old mid new : Option History) → IsIdle old mid → IfTold old (λ now. reading (now name) ≡ Some octets) → IsLog octets head entries
    → IfTold old (λ now. Keeps (now name) kept) → IsLog kept head asked
    → EachImage (IsAlong name (λ octets. IsLogFile octets head entries) mid) mid new → EachImage (IsAlong name (λ octets. IsLogFile octets head asked) old) old new
repair-images name head entries asked octets kept old mid new idle r l k a each =
    let same : IfTold old (λ _. asked ≡ entries) = if_told-both _ _ _ old (λ disk h s. (one_log octets head head asked entries (subst (λ (o : List ℕ). IsLog o head asked) (same_octets (disk name) kept octets h s) a) l).1) k r in
    each_image-if _ _ _ old new same
    (λ disk e m image is. (subst (λ (es : List (List ℕ)). IsLogFile (image name) head es) (sym e) is.0, is.1))
    (one_file-then name (λ octets. IsLogFile octets head entries) old mid new
    (idle-along name (λ octets. IsLogFile octets head entries) old mid idle
    (if_told-both _ _ _ old (λ disk e p left leaves. subst (λ (es : List (List ℕ)). IsLogFile left head es) e (p left leaves)) same (log-leaves name head asked kept old a k)))
    each)

idle-others : (name : FileName) (old new : Option History) → IsIdle old new → Along name (λ _. Unit {0}) old new
idle-others name old new idle = idle-along name (λ _. Unit {0}) old new idle (if_told-all _ old (λ disk octets leaves. tt))

pub idle-others_stay : (name : FileName) (old new : Option History) → IsIdle old new → EachImage (λ _ image. OthersStay name old image) old new
idle-others_stay name old new idle = apart_images name old new (idle-others name old new idle).each

repair-others_stay : (name : FileName) (old mid new : Option History) → IsIdle old mid → EachImage (λ _ image. OthersStay name mid image) mid new → EachImage (λ _ image. OthersStay name old image) old new
repair-others_stay name old mid new idle each = then-others name old mid new (idle-others_stay name old mid idle) (idle-others name old mid idle).same each

-- the same where what was found names the file and its head

pub opened-images : (found : InspectedLog) (name : FileName) (head : LogHead) (entries asked : List (List ℕ)) (octets kept : List ℕ) (old mid new : Option History) → found.name ≡ name → found.head ≡ head → IsIdle old mid
    → IfTold old (λ now. reading (now name) ≡ Some octets) → IsLog octets head entries → IfTold old (λ now. Keeps (now name) kept) → IsLog kept head asked
    → EachImage (λ _ image. IsLogFile (image found.name) found.head entries × OthersStay found.name mid image) mid new → EachImage (IsAlong name (λ octets. IsLogFile octets head asked) old) old new
opened-images found name head entries asked octets kept old mid new n h idle r l k a each =
    repair-images name head entries asked octets kept old mid new idle r l k a
    (subst (λ (f : FileName). EachImage (λ _ image. IsLogFile (image f) head entries × OthersStay f mid image) mid new) n
    (subst (λ (t : LogHead). EachImage (λ _ image. IsLogFile (image found.name) t entries × OthersStay found.name mid image) mid new) h each))

pub opened-others_stay : (found : InspectedLog) (name : FileName) (old mid new : Option History) → found.name ≡ name → IsIdle old mid → EachImage (λ _ image. OthersStay found.name mid image) mid new → EachImage (λ _ image. OthersStay name old image) old new
opened-others_stay found name old mid new n idle each = repair-others_stay name old mid new idle (subst (λ (f : FileName). EachImage (λ _ image. OthersStay f mid image) mid new) n each)

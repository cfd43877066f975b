-- The logs of mailboxes, written one after another.
use Rattle.std.proofs.Common.{◌≡◌, ◌≢◌, ◌⊎◌, inl, inr, true, false, ℕ, ◌+◌, ◌<◌, ◌≤◌, List, [], ◌∷◌, ◌++◌, length, Option, Some, None, refl, sym, ◌∙◌, ap, subst, append-nil, append_assoc, length-append, arith}
use Rattle.std.proofs.lemmas.List.{nil_from_length}
use Rattle.disk_model.specs.Disk.{Files, FileState, DiskState, History, Between, EachImage, IfTold, IsImage, Keeps, MayLeave, OthersStay, named, no_file, reading}
use Rattle.disk_model.specs.Name.{IsLogName}
use Rattle.disk_model.specs.declared.name.FileName.{FileName}
use Rattle.disk_model.specs.declared.name.FileName.TheVariants as file
use Rattle.disk_model.proofs.BetweenLemmas.{between-on}
use Rattle.disk_model.proofs.MomentLemmas.{each_image-begins, each_image-map, if_told-both, if_told-map}
use Rattle.disk_model.proofs.OneFileLemmas.{named-narrows}
use Rattle.model_logs.specs.declared.log_head.LogHead.{LogHead}
use Rattle.model_logs.specs.declared.log_head.LogKind.TheVariants as kind
use Rattle.model_rebuild.specs.RebuildMoments.{KeepsLog}
use Rattle.model_store.specs.Opening.{HasNoEntry}
use Rattle.model_store.specs.Stands.{head_of}
use Rattle.store_rebuild.specs.Writing.{IsRootless, IsWithoutStore, IsBoxLogOf, KeepBoxLogs, KeepsAllBut}
use Rattle.store_rebuild.proofs.FileLemmas.{NamedOthers, named_keeps, named_reads}

-- ---- a file that isn't the log that is made

pub kept_log : (name other : FileName) (head : LogHead) (entries : List (List ℕ)) (a b : DiskState) → other ≢ name → NamedOthers name a b → KeepsLog a other head entries → KeepsLog b other head entries
kept_log name other head entries a b apart is k = record {
  octets = k.octets;
  keeps = subst (λ (f : FileState). Keeps f k.octets) (sym (is other apart)) (named_keeps (a other) k.octets k.keeps);
  whole = k.whole;
}

log_apart : (name other : FileName) → IsLogName name → (IsLogName other → ⊥) → other ≢ name
log_apart name other log mail e = mail (subst IsLogName (sym e) log)

-- storage files and instances read as before, and a crash leaves of each what it would have left before, if that was one thing
pub record KeepsMailFiles (old new : DiskState) : Type 0 where
  pub reads : (name : FileName) → (IsLogName name → ⊥) → reading (new name) ≡ reading (old name)
  pub keeps : (name : FileName) → (IsLogName name → ⊥) → (octets : List ℕ) → Keeps (old name) octets → Keeps (new name) octets

pub mail_named : (name : FileName) → IsLogName name → (a b : DiskState) → NamedOthers name a b → KeepsMailFiles a b
mail_named name log a b is = record {
  reads = λ other mail. ap reading (is other (log_apart name other log mail)) ∙ named_reads (a other);
  keeps = λ other mail octets k. subst (λ (f : FileState). Keeps f octets) (sym (is other (log_apart name other log mail))) (named_keeps (a other) octets k);
}

pub mail_of_boxes : (generation : ℕ) (a b : DiskState) → KeepsAllBut (IsBoxLogOf generation) a b → KeepsMailFiles a b
mail_of_boxes generation a b r = record {
  reads = λ name mail. r.reads name (λ box. mail (subst IsLogName (sym box.1) refl));
  keeps = λ name mail octets k. r.keeps name (λ box. mail (subst IsLogName (sym box.1) refl)) octets k;
}

pub others_begin : (IsNew : FileName → Type 0) (disk : DiskState) → KeepsAllBut IsNew disk disk
others_begin IsNew disk = record { reads = λ name outside. refl; keeps = λ name outside octets k. k }

pub others_then : (IsNew : FileName → Type 0) (a b c : DiskState) → KeepsAllBut IsNew a b → KeepsAllBut IsNew b c → KeepsAllBut IsNew a c
others_then IsNew a b c r s = record { reads = λ name outside. s.reads name outside ∙ r.reads name outside; keeps = λ name outside octets k. s.keeps name outside octets (r.keeps name outside octets k) }

-- the other files, when one that is new is made
pub others_made : (IsNew : FileName → Type 0) (name : FileName) → IsNew name → (a b : DiskState) → NamedOthers name a b → KeepsAllBut IsNew a b
others_made IsNew name new a b is = record {
  reads = λ other outside. ap reading (is other (apart other outside)) ∙ named_reads (a other);
  keeps = λ other outside octets k. subst (λ (f : FileState). Keeps f octets) (sym (is other (apart other outside))) (named_keeps (a other) octets k);
}
  where
    apart : (other : FileName) → (IsNew other → ⊥) → other ≢ name
    apart other outside e = outside (subst IsNew (sym e) new)

pub others_more : (IsNew IsToo : FileName → Type 0) → ((name : FileName) → IsNew name → IsToo name) → (a b : DiskState) → KeepsAllBut IsNew a b → KeepsAllBut IsToo a b
others_more IsNew IsToo too a b r = record { reads = λ name outside. r.reads name (λ new. outside (too name new)); keeps = λ name outside octets k. r.keeps name (λ new. outside (too name new)) octets k }

-- ---- a disk without root log

no_root : (left : Option (List ℕ)) → MayLeave no_file left → HasNoEntry left
no_root None h = tt
no_root (Some octets) h = by h.named
  where
    by : (false ≡ true) ⊎ (false ≡ true) → HasNoEntry (Some octets)
    by (inl e) = absurd (let k : false ≡ true = e in cc k)
    by (inr e) = absurd (let k : false ≡ true = e in cc k)

still_rootless : (first : DiskState) (name : FileName) → IsLogName name → name ≢ file.Root → (a b : DiskState) → NamedOthers name a b → IsRootless first a → IsRootless first b
still_rootless first name log apart a b is r =
    let gone : b file.Root ≡ no_file = is file.Root (λ e. apart (sym e)) ∙ ap named r.gone in
    record {
      gone = gone;
      before = (
        λ other mail left h. r.before.0 other mail left (named-narrows (a other) left (subst (λ (f : FileState). MayLeave f left) (is other (log_apart name other log mail)) h)),
        λ left h. no_root left (subst (λ (f : FileState). MayLeave f left) gone h),
      );
    }

pub rootless_then : (first : DiskState) (name : FileName) (old new : Option History) → IsLogName name → name ≢ file.Root → Between (NamedOthers name) old new → IfTold old (IsRootless first) → IfTold new (IsRootless first)
rootless_then first name old new log apart is r = between-on (NamedOthers name) (IsRootless first) (IsRootless first) old new (still_rootless first name log apart) is r

-- while a log is made, there is no store
pub without_store : (first : DiskState) (Q : Files → Type 0) (name : FileName) (old new : Option History) → IsLogName name → name ≢ file.Root → IfTold old (IsRootless first) → EachImage (λ _ image. Q image × OthersStay name old image) old new → EachImage (λ _ image. IsWithoutStore first image) old new
without_store first Q name None new log apart r each = each
without_store first Q name (Some old) new log apart r each =
    each_image-map _ _ (Some old) new (λ m image is. (
      λ other mail. r.before.0 other mail (image other) (is.1 other (log_apart name other log mail)),
      r.before.1 (image file.Root) (is.1 file.Root (λ e. apart (sym e))),
    )) each

-- ---- the logs of mailboxes

-- all logs before a number
still_keep : (name : FileName) (store : List ℕ) (number generation : ℕ) (logs : List (List (List ℕ))) (a b : DiskState) → ((k : ℕ) → k < number + length logs → file.Box k generation ≢ name) → NamedOthers name a b → KeepBoxLogs a store number generation logs → KeepBoxLogs b store number generation logs
still_keep name store number generation [] a b apart is k = tt
still_keep name store number generation (log ∷ logs) a b apart is k = (
  kept_log name (file.Box number generation) (head_of store kind.Box number generation) log a b (apart number (omega arith)) is k.0,
  still_keep name store (number + 1) generation logs a b (λ n l. apart n (omega (arith, l))) is k.1,
)

keep_more : (disk : DiskState) (store : List ℕ) (number generation : ℕ) (logs : List (List (List ℕ))) (log : List (List ℕ)) (last : ℕ) → last ≡ number + length logs → KeepBoxLogs disk store number generation logs → KeepsLog disk (file.Box last generation) (head_of store kind.Box last generation) log → KeepBoxLogs disk store number generation (logs ++ log ∷ [])
keep_more disk store number generation [] log last e k new =
    let n : last ≡ number = omega (arith, e) in
    (subst (λ (m : ℕ). KeepsLog disk (file.Box m generation) (head_of store kind.Box m generation) log) n new, tt)
keep_more disk store number generation (first ∷ logs) log last e k new = (k.0, keep_more disk store (number + 1) generation logs log last (omega (arith, e)) k.1 new)

box_apart : (k number generation : ℕ) → k < number → file.Box k generation ≢ file.Box number generation
box_apart k number generation l e = let h : file.Box k generation ≡ file.Box number generation = e in let n : k ≡ number = cc h in omega (arith, l, n)

pub one_more : (store : List ℕ) (generation number : ℕ) (head : LogHead) (logs : List (List (List ℕ))) (log : List (List ℕ)) (old new : Option History) → number ≡ length logs + 1 → head ≡ head_of store kind.Box number generation
    → Between (NamedOthers (file.Box number generation)) old new → IfTold new (λ disk. KeepsLog disk (file.Box number generation) head log)
    → IfTold old (λ disk. KeepBoxLogs disk store 1 generation logs) → IfTold new (λ disk. KeepBoxLogs disk store 1 generation (logs ++ log ∷ []))
one_more store generation number head logs log old new e h is made k =
    if_told-both (λ disk. KeepBoxLogs disk store 1 generation logs) (λ disk. KeepsLog disk (file.Box number generation) head log) (λ disk. KeepBoxLogs disk store 1 generation (logs ++ log ∷ [])) new
    (λ disk b l. keep_more disk store 1 generation logs log number (omega (arith, e)) b (subst (λ (o : LogHead). KeepsLog disk (file.Box number generation) o log) h l))
    (between-on (NamedOthers (file.Box number generation)) (λ disk. KeepBoxLogs disk store 1 generation logs) (λ disk. KeepBoxLogs disk store 1 generation logs) old new
    (λ a b n r. still_keep (file.Box number generation) store 1 generation logs a b (λ j l. box_apart j number generation (omega (arith, l, e))) n r) is k) made

-- all logs, when another one is made
pub still_logs_kept : (name : FileName) (store : List ℕ) (generation : ℕ) (logs : List (List (List ℕ))) (a b : DiskState) → ((k : ℕ) → file.Box k generation ≢ name) → NamedOthers name a b → KeepBoxLogs a store 1 generation logs → KeepBoxLogs b store 1 generation logs
still_logs_kept name store generation logs a b apart is k = still_keep name store 1 generation logs a b (λ j l. apart j) is k

-- ---- the logs that are left

pub whole_more : (done : List (List (List ℕ))) (log : List (List ℕ)) (rest others all : List (List (List ℕ))) → rest ≡ log ∷ others → done ++ rest ≡ all → (done ++ log ∷ []) ++ others ≡ all
whole_more done log rest others all is h = append_assoc done (log ∷ []) others ∙ ap (λ (ls : List (List (List ℕ))). done ++ ls) (sym is) ∙ h

pub room_for : (done : List (List (List ℕ))) (log : List (List ℕ)) (rest others all : List (List (List ℕ))) → rest ≡ log ∷ others → done ++ rest ≡ all → length done + 1 ≤ length all
room_for done log rest others all is h =
    let a = ap length is in
    let b = ap length h in
    omega (arith, a, b, length-append done rest)

-- nothing is written yet
pub without_begins : (first : DiskState) (old : Option History) → IfTold old (IsRootless first) → EachImage (λ _ image. IsWithoutStore first image) old old
without_begins first old r =
    each_image-begins (λ _ image. IsWithoutStore first image) old
    (if_told-map (IsRootless first) (λ disk. (m : ℕ) (image : Files) → IsImage disk image → IsWithoutStore first image) old
    (λ disk k m image is. (λ other mail. k.before.0 other mail (image other) (is other), k.before.1 (image file.Root) (is file.Root))) r)

pub box_no_root : (number generation : ℕ) → file.Box number generation ≢ file.Root
box_no_root number generation e = let h : file.Box number generation ≡ file.Root = e in cc h

pub map_no_root : (generation : ℕ) → file.Map generation ≢ file.Root
map_no_root generation e = let h : file.Map generation ≡ file.Root = e in cc h

pub box_no_map : (number generation other : ℕ) → file.Box number generation ≢ file.Map other
box_no_map number generation other e = let h : file.Box number generation ≡ file.Map other = e in cc h

pub root_no_box : (number generation : ℕ) → file.Root ≢ file.Box number generation
root_no_box number generation e = let h : file.Root ≡ file.Box number generation = e in cc h

pub left_more : (log : List (List ℕ)) (rest others : List (List (List ℕ))) (many fewer : ℕ) → rest ≡ log ∷ others → many ≡ length rest → fewer + 1 ≡ many → fewer ≡ length others
left_more log rest others many fewer e long one = let l : length rest ≡ length (log ∷ others) = ap length e in omega (arith, long, one, l)

pub whole_done : (done rest all : List (List (List ℕ))) (many : ℕ) → many ≡ 0 → many ≡ length rest → done ++ rest ≡ all → done ≡ all
whole_done done rest all many none long whole =
    let e : rest ≡ [] = nil_from_length rest (sym long ∙ none) in
    sym (append-nil done) ∙ ap (λ (ls : List (List (List ℕ))). done ++ ls) (sym e) ∙ whole

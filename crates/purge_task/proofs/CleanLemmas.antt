-- Whether a file is clean, by what is said of its messages and by what it begins with.
use Rattle.purge_task.proofs.Common.{◌≡◌, ℕ, ◌+◌, ◌<◌, ◌≤◌, ◌&&◌, ◌||◌, Bool, true, false, cond, not, Option, Some, None, List, [], ◌∷◌, length, take, All, refl, sym, ap, subst, ◌∙◌, arith, Result, Ok, Err, IfOk, IsSome, nat_lt, sum_by, list_any, option_map, option_map_or, option_and_then, All-head}
use Rattle.purge_task.proofs.Common.{All-tail, sum_by-cons, DiskState, Files, History, IfTold, reading, Mail, IsClean, IsCleanFile, is_copied_from, Refusal, MapRecord, MapMeaning, IsSoundMap, IsHeaderLine, files_of, MailFile, end_in, file_in, is_doomed_in, is_emptied_in, is_taken_in, IsStore}
use Rattle.purge_task.proofs.Common.{StoreValue, AreContents, IsFoundFile, IsFullToEnd, MayBeEmptied, FoundFile}
use Rattle.std.specs.Prelude.{IsTrue, ◌↔◌}
use Rattle.storage_files.specs.Files.{is_sealed_in}
use Rattle.storage_files.specs.OnDisk.{piece_read}
use Rattle.purge_task.specs.Found.{IsFilled, IsHeaderOf}
use Rattle.purge_task.specs.declared.contents.Contents.{Contents}
use Rattle.purge_task.proofs.HeaderLemmas.{begins_as_read, line_as_read, line_some, line_short, too_few}
use Rattle.purge_task.proofs.WalkLemmas.{below}

-- ---- what a file begins with

pub header_too_long : (history : Option History) (n size : ℕ) → 512 < size → IfTold history (λ now. IsTrue false ↔ IsHeaderOf size (reading (now (Mail n))))
header_too_long None n size long = tt
header_too_long (Some d) n size long = ((λ h. absurd (let w : false ≡ true = h in cc w)), λ of. absurd (let short = line_short size (reading (d.now (Mail n))) of in omega (arith, short, long)))

pub header_cut_off : (history : Option History) (n size k : ℕ) → k ≡ size → IfTold history (λ now. length (piece_read 0 k (reading (now (Mail n)))) < k) → IfTold history (λ now. IsTrue false ↔ IsHeaderOf size (reading (now (Mail n))))
header_cut_off None n size k same few = tt
header_cut_off (Some d) n size k same few = (
  (λ h. absurd (let w : false ≡ true = h in cc w)),
  λ of. absurd (too_few size (length (piece_read 0 k (reading (d.now (Mail n))))) (reading (d.now (Mail n))) (ap (λ (i : ℕ). length (piece_read 0 i (reading (d.now (Mail n))))) same) (subst (λ (i : ℕ). length (piece_read 0 k (reading (d.now (Mail n)))) < i) same few) of),
)

pub header_as_read : (history : Option History) (n size : ℕ) (line : List ℕ) (r : Result Bool Refusal) → length line ≡ size → IfTold history (λ now. line ≡ piece_read 0 (length line) (reading (now (Mail n)))) → IfOk r (λ is. IsTrue is ↔ IsHeaderLine line 30)
    → IfOk r (λ begins. IfTold history (λ now. IsTrue begins ↔ IsHeaderOf size (reading (now (Mail n)))))
header_as_read history n size line (Err e) long read is = tt
header_as_read None n size line (Ok b) long read is = tt
header_as_read (Some d) n size line (Ok b) long read is =
    let octets = reading (d.now (Mail n)) in
    let as_long : line ≡ piece_read 0 size octets = read ∙ ap (λ (i : ℕ). piece_read 0 i octets) long in (
      (λ yes. let line_is = is.0 yes in let some = line_some line 30 line_is in begins_as_read size line octets long as_long (omega (arith, some, long)) line_is),
      λ of. is.1 (line_as_read size line octets as_long of),
    )

-- ---- a clean file

wholly : (files : Files) (m : MapMeaning) (n first : ℕ) (c : Contents) (o : Option (List ℕ)) → files (Mail n) ≡ o → AreContents m n c → c.first ≡ Some first → c.is_full ≡ true → option_map length o ≡ Some c.end → IsHeaderOf first o → IsCleanFile files m n
wholly files m n first c None there are at full ends of = absurd of
wholly files m n first c (Some octets) there are at full ends (header, line, begins, long) =
    let e : length octets ≡ c.end = cc ends in
    let filled : IsFilled m n (length header) (length octets) = subst (λ (k : ℕ). IsFilled m n (length header) k) (sym e) (subst (λ (k : ℕ). IsFilled m n k c.end) (sym long) (are.full first at full)) in
    (octets, there, record { header = header; rows = filled.0; begins = (line, subst (λ (k : ℕ). take k octets ≡ header) (sym long) begins); some = filled.1.some; mapped = filled.1.mapped; every = filled.1.every; whole = filled.1.whole })

-- its messages fill it behind its header
clean_filled : (m : MapMeaning) (n : ℕ) (octets : List ℕ) (w : IsClean m n octets) → IsFilled m n (length w.header) (length octets)
clean_filled m n octets w = (w.rows, record { some = w.some; mapped = w.mapped; every = w.every; whole = w.whole })

begins_first : (files : Files) (m : MapMeaning) (n first : ℕ) (c : Contents) → IsCleanFile files m n → AreContents m n c → c.first ≡ Some first → IsHeaderOf first (files (Mail n))
begins_first files m n first c (octets, there, w) are at =
    let x = are.exactly (length w.header) (length octets) (clean_filled m n octets w) in
    let same : Some first ≡ Some (length w.header) = sym at ∙ x.0 in
    let e : first ≡ length w.header = cc same in
    subst (IsHeaderOf first) (sym there) (w.header, w.begins.0, subst (λ (k : ℕ). take k octets ≡ w.header) (sym e) w.begins.1, sym e)

pub clean_as_begins : {D : Type 0} → (store : StoreValue D) (history : Option History) (n first : ℕ) (c : Contents) (r : Result Bool Refusal) → IsStore history store → store.stopped ≡ false → AreContents store.map n c → c.first ≡ Some first → c.is_full ≡ true → end_in n store.files.files ≡ Some c.end
    → IfOk r (λ begins. IfTold history (λ now. IsTrue begins ↔ IsHeaderOf first (reading (now (Mail n))))) → IfOk r (λ clean. IfTold history (λ now. IsTrue clean ↔ IsCleanFile (files_of now) store.map n))
clean_as_begins store history n first c (Err e) is run are at full ends h = tt
clean_as_begins store None n first c (Ok b) is run are at full ends h = tt
clean_as_begins store (Some d) n first c (Ok b) is run are at full ends h =
    let known : option_map length (reading (d.now (Mail n))) ≡ end_in n store.files.files = (is.running run).files_known n in (
      (λ yes. wholly (files_of d.now) store.map n first c (reading (d.now (Mail n))) refl are at full (known ∙ ends) (h.0 yes)),
      λ clean. h.1 (begins_first (files_of d.now) store.map n first c clean are at),
    )

-- one that its wanted messages fill, as far as is known
pub full_to_end : {D : Type 0} → (store : StoreValue D) (n first : ℕ) (c : Contents) → AreContents store.map n c → c.first ≡ Some first → c.is_full ≡ true → end_in n store.files.files ≡ Some c.end → IsFullToEnd store n
full_to_end store n first c are at full ends = (first, c.end, ends, are.full first at full)

pub unclean_unfilled : {D : Type 0} → (store : StoreValue D) (history : Option History) (n : ℕ) (c : Contents) → IsStore history store → store.stopped ≡ false → AreContents store.map n c → ((first : ℕ) → c.first ≡ Some first → c.is_full ≡ true → end_in n store.files.files ≡ Some c.end → ⊥)
    → IfTold history (λ now. IsTrue false ↔ IsCleanFile (files_of now) store.map n)
unclean_unfilled store None n c is run are unfilled = tt
unclean_unfilled store (Some d) n c is run are unfilled =
    let known : option_map length (reading (d.now (Mail n))) ≡ end_in n store.files.files = (is.running run).files_known n in (
      (λ h. absurd (let w : false ≡ true = h in cc w)),
      λ clean. absurd (let x = are.exactly (length clean.2.header) (length clean.0) (clean_filled store.map n clean.0 clean.2) in unfilled (length clean.2.header) x.0 x.2 (sym known ∙ ap (option_map length) clean.1 ∙ ap Some (sym x.1))),
    )

-- ---- what is found of a file

not_both : (t e d s : Bool) → (not (t || e) && not d && not s) ≡ true → (t ≡ false) × (e ≡ false) × (d ≡ false) × (s ≡ false)
not_both false false false false h = (refl, refl, refl, refl)
not_both false false false true h = absurd (let w : false ≡ true = h in cc w)
not_both false false true s h = absurd (let w : false ≡ true = h in cc w)
not_both false true d s h = absurd (let w : false ≡ true = h in cc w)
not_both true e d s h = absurd (let w : false ≡ true = h in cc w)

may_be_as : (files : List MailFile) (n : ℕ) (o : Option MailFile) → file_in n files ≡ o → IsSome (option_and_then (λ f. f.end) o)
    → (not (option_map_or (λ f. f.taken) o false || option_map_or (λ f. f.emptied) o false) && not (option_map_or (λ f. f.doomed) o false) && not (option_map_or (λ f. f.sealed) o false)) ≡ true → MayBeEmptied files n
may_be_as files n None e some free = absurd (let w : false ≡ true = some in cc w)
may_be_as files n (Some f) e some free =
    let b = not_both f.taken f.emptied f.doomed f.sealed free in
    record { f = f; known = e; there = some; untaken = record { untaken = b.0; unemptied = b.1; undoomed = b.2 }; unsealed = b.3 }

pub may_be_emptied : (files : List MailFile) (n : ℕ) (free : Bool) → IsSome (end_in n files) → free ≡ (not (is_taken_in n files || is_emptied_in n files) && not (is_doomed_in n files) && not (is_sealed_in n files)) → free ≡ true → MayBeEmptied files n
may_be_emptied files n free some e is = may_be_as files n (file_in n files) refl some (sym e ∙ is)

any_step : (b : Bool) (size rest : ℕ) (others : Bool) → 1 ≤ size → nat_lt 0 rest ≡ others → nat_lt 0 (cond b size 0 + rest) ≡ (b || others)
any_step true size rest others some e = below 0 (size + rest) (omega (arith, some))
any_step false size rest others some e = ap (nat_lt 0) (nothing_more rest) ∙ e
  where
    nothing_more : (k : ℕ) → 0 + k ≡ k
    nothing_more k = omega arith

any_wanted : (file : ℕ) (rows : List MapRecord) → All (λ o. 1 ≤ o.size) rows → nat_lt 0 (sum_by (λ o. cond (is_copied_from file o) o.size 0) rows) ≡ list_any (is_copied_from file) rows
any_wanted file [] some = refl
any_wanted file (x ∷ xs) some =
    ap (nat_lt 0) (sum_by-cons (λ o. cond (is_copied_from file o) o.size 0) x xs) ∙ any_step (is_copied_from file x) x.size (sum_by (λ o. cond (is_copied_from file o) o.size 0) xs) (list_any (is_copied_from file) xs) (All-head (λ o. 1 ≤ o.size) x xs some) (any_wanted file xs (All-tail (λ o. 1 ≤ o.size) x xs some))

pub found_file : (m : MapMeaning) (f : FoundFile) (c : Contents) → IsSoundMap m → AreContents m f.file.0 c → f.is_wanted ≡ nat_lt 0 c.wanted → f.messages ≡ c.messages → f.octets ≡ c.wanted → IsFoundFile m f
found_file m f c sound are wanted messages octets = record {
  wanted = wanted ∙ ap (nat_lt 0) are.wanted ∙ any_wanted f.file.0 m.records (λ k d lt. (sound.records k d lt).size);
  messages = messages ∙ are.messages;
  octets = octets ∙ are.wanted;
}

pub told_not : (history : Option History) (b : Bool) (P : DiskState → Type 0) → IfTold history (λ now. IsTrue b ↔ P now) → b ≡ false → IfTold history (λ now. P now → ⊥)
told_not None b P h e = tt
told_not (Some d) b P h e = λ p. let w : true ≡ false = sym (h.1 p) ∙ e in cc w

-- The copies in a target, with one message more, stand there octet for octet.
use Rattle.purge_task.proofs.Common.{◌≡◌, ◌≢◌, ◌≤◌, ◌+◌, ◌==◌, ℕ, List, [], ◌∷◌, ◌++◌, length, take, drop, Some, refl, sym, ◌∙◌, ap, subst, arith, length-drop, length-take-le, All-contains, All-push, All-weaker, DiskState, reading, FileName, MapPlace, AreCopied, IsCopiedTo, HasRecord, MapMeaning}
use Rattle.purge_task.proofs.Common.{MapRecord, record_at, found_one, files_of, shown_record, MapRow, IsPieceAdded, AreElsewhere, IsRegionAdded}
use Rattle.std.proofs.lemmas.List.{take-take}
use Rattle.disk_model.specs.declared.name.FileName.TheVariants as file
use Rattle.store_core.proofs.MailChangeLemmas.{part_behind}

length_both : (xs ys : List ℕ) → length (xs ++ ys) ≡ length xs + length ys
length_both [] ys = omega arith
length_both (x ∷ xs) ys = let e = length_both xs ys in omega (arith, e)

drop_front : (xs ys : List ℕ) → drop (length xs) (xs ++ ys) ≡ ys
drop_front [] ys = refl
drop_front (x ∷ xs) ys = drop_front xs ys

mails_apart : (n m : ℕ) → n ≢ m → file.Mail n ≢ file.Mail m
mails_apart n m apart e = apart (let k : n ≡ m = cc e in k)

elsewhere : (m : MapMeaning) (target uid : ℕ) (r : MapRecord) → AreElsewhere target m.records → record_at m uid ≡ Some r → r.file ≢ target
elsewhere m target uid r away found = All-contains (λ (x : MapRecord). x.file ≢ target) m.records r away (found_one (λ (x : MapRecord). x.uid == uid) m.records r found).0

-- a copy that stood there
still_copied : (a b : DiskState) (target offset : ℕ) (more : List ℕ) (r : MapRecord) → r.file ≢ target → ((other : FileName) → other ≢ file.Mail target → b other ≡ a other) → IsPieceAdded more (a (file.Mail target)) (b (file.Mail target)) → IsCopiedTo (files_of a) target offset r → IsCopiedTo (files_of b) target offset r
still_copied a b target offset more r apart others added h =
    let e : h.second ≡ added.before = let w : Some h.second ≡ Some added.before = sym h.in_second ∙ added.read in cc w in
    let holds : offset + r.size ≤ length added.before = subst (λ (x : List ℕ). offset + r.size ≤ length x) e h.second_holds in
    record {
      first = h.first;
      second = added.before ++ more;
      in_first = ap reading (others (file.Mail r.file) (mails_apart r.file target apart)) ∙ h.in_first;
      in_second = added.reads;
      first_holds = h.first_holds;
      second_holds = (let l = length_both added.before more in omega (arith, holds, l));
      same = part_behind r.size offset added.before more holds ∙ (ap (λ (x : List ℕ). take r.size (drop offset x)) (sym e) ∙ h.same);
    }

-- the copy that was added
now_copied : (a b : DiskState) (target : ℕ) (r : MapRecord) (end : ℕ) → r.file ≢ target → ((other : FileName) → other ≢ file.Mail target → b other ≡ a other) → ((text : List ℕ) → reading (a (file.Mail target)) ≡ Some text → length text ≡ end) → IsRegionAdded (shown_record r) target a b → IsCopiedTo (files_of b) target end r
now_copied a b target r end apart others long h =
    let piece : List ℕ = take r.size (drop r.offset h.there) in
    let inside = h.inside in
    let size : length piece ≡ r.size = length-take-le r.size (drop r.offset h.there) (let d = length-drop r.offset h.there in omega (arith, d, inside)) in
    let ends : length h.added.before ≡ end = long h.added.before h.added.read in
    record {
      first = h.there;
      second = h.added.before ++ piece;
      in_first = ap reading (others (file.Mail r.file) (mails_apart r.file target apart)) ∙ h.in_file;
      in_second = h.added.reads;
      first_holds = inside;
      second_holds = (let l = length_both h.added.before piece in omega (arith, l, size, ends));
      same = ap (λ (n : ℕ). take r.size (drop n (h.added.before ++ piece))) (sym ends) ∙ (ap (take r.size) (drop_front h.added.before piece) ∙ take-take r.size r.size (drop r.offset h.there) (omega arith));
    }

pub copied_octets : (a b : DiskState) (m : MapMeaning) (target end : ℕ) (copied : List MapPlace) (place : MapPlace) (r : MapRecord) (row : MapRow) → AreElsewhere target m.records → ((other : FileName) → other ≢ file.Mail target → b other ≡ a other) → ((text : List ℕ) → reading (a (file.Mail target)) ≡ Some text → length text ≡ end)
    → row ≡ shown_record r → IsRegionAdded row target a b → record_at m place.uid.0 ≡ Some r → place.offset ≡ end → AreCopied (files_of a) m target copied → AreCopied (files_of b) m target (copied ++ place ∷ [])
copied_octets a b m target end copied place r row away others long shown added found at copies =
    let one : IsRegionAdded (shown_record r) target a b = subst (λ (w : MapRow). IsRegionAdded w target a b) shown added in
    All-push (λ (p : MapPlace). HasRecord m p.uid.0 (IsCopiedTo (files_of b) target p.offset)) copied place
    (All-weaker (λ (p : MapPlace). HasRecord m p.uid.0 (IsCopiedTo (files_of a) target p.offset)) (λ (p : MapPlace). HasRecord m p.uid.0 (IsCopiedTo (files_of b) target p.offset))
    (λ p h. (h.0, h.1, still_copied a b target p.offset (take r.size (drop r.offset one.there)) h.0 (elsewhere m target p.uid.0 h.0 away h.1) others one.added h.2)) copied copies)
    (r, found, subst (λ (n : ℕ). IsCopiedTo (files_of b) target n r) (sym at) (now_copied a b target r end (elsewhere m target place.uid.0 r away found) others long one))

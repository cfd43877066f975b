-- Texts that are read back.
use Rattle.std.specs.Prelude.{◌≡◌, ◌≢◌, ◌<◌, ◌^◌, ℕ, List, ◌∷◌, ◌++◌, length, IsTrue, Option, Some, None, IfSome, IfNone, MatchOption, false, refl}
use Rattle.std.proofs.Common.{ap, arith, length-append, append_assoc, codes, sym, Bor}
use Rattle.std.specs.List.{list_all}
use Rattle.std.specs.Fmt.{decimal}
use Rattle.disk_model.specs.declared.name.FileName.{FileName}
use Rattle.disk_model.specs.declared.name.FileName.TheVariants as file
use Rattle.mdbox_base.specs.Words.{IsNumber, is_other_than}
use Rattle.file_paths.specs.Paths.{path_text, IsStoreFile}
use Rattle.model_storage.proofs.ReferenceLemmas.{is_digit, decimal_digits, others, until_same}
use Rattle.model_octets.proofs.PiecesLemmas.{split_same}

-- what stands in front of an end, where that is looked for
abbrev pub StripsEnd : Option (Bor (List ℕ)) → List ℕ → List ℕ → Type 0
StripsEnd r text end = MatchOption r ((front : List ℕ) → text ≢ front ++ end) (λ x. text ≡ x.now ++ end)

pub stripped : (r : Option (Bor (List ℕ))) (front text end : List ℕ) → StripsEnd r text end → IfSome r (λ x. front ++ text ≡ front ++ (x.now ++ end))
stripped None front text end h = tt
stripped (Some x) front text end h = ap (λ (o : List ℕ). front ++ o) h

pub not_stripped : (r : Option (Bor (List ℕ))) (front text end : List ℕ) → StripsEnd r text end → IfNone r ((middle : List ℕ) → front ++ text ≢ front ++ (middle ++ end))
not_stripped None front text end h = λ middle e. h middle (split_same front front text (middle ++ end) refl e).1
not_stripped (Some x) front text end h = tt

-- what follows where there is none
pub none_then : {X A B : Type 0} → (r : Option X) → IfNone r A → (A → B) → IfNone r B
none_then None h f = f h
none_then (Some x) h f = tt

-- a cut at the first mark is that behind a number
pub cut_number : (mark n : ℕ) (before x y : List ℕ) → is_digit mark ≡ false → n < 2 ^ 64 → IsTrue (list_all (is_other_than mark) before) →
    before ++ mark ∷ x ≡ decimal n ++ mark ∷ y → (before ≡ decimal n) × (x ≡ y)
cut_number mark n before x y p lt h e = until_same mark before (decimal n) x y h (others mark (decimal n) p (decimal_digits n lt)) e

-- what stands between two texts is one
pub middle_same : (front end x y : List ℕ) → front ++ (x ++ end) ≡ front ++ (y ++ end) → x ≡ y
middle_same front end x y e =
    let rest : x ++ end ≡ y ++ end = (split_same front front _ _ refl e).1 in
    let same : length x ≡ length y = omega (arith, ap length rest, length-append x end, length-append y end) in
    (split_same x y end end same rest).0

-- a path that is none of each kind's
pub no_name : (path : List ℕ) → path ≢ path_text file.Root →
    ((generation : ℕ) → IsNumber generation → path ≢ path_text (file.Map generation)) →
    ((number generation : ℕ) → IsNumber number → IsNumber generation → path ≢ path_text (file.Box number generation)) →
    ((number : ℕ) → IsNumber number → path ≢ path_text (file.Mail number)) →
    ((hash id : List ℕ) → IsStoreFile (file.Inst hash id) → path ≢ path_text (file.Inst hash id)) →
    (name : FileName) → IsStoreFile name → path ≡ path_text name → ⊥
no_name path root map box mail inst file.Root h e = root e
no_name path root map box mail inst (file.Map generation) h e = map generation h e
no_name path root map box mail inst (file.Box number generation) h e = box number generation h.0 h.1 e
no_name path root map box mail inst (file.Mail number) h e = mail number h e
no_name path root map box mail inst (file.Inst hash id) h e = inst hash id h e

-- the two numbers of a log's path in one text
pub regroup : (a b : List ℕ) → codes "mailboxes/b." ++ (a ++ (codes "." ++ (b ++ codes ".log"))) ≡ codes "mailboxes/b." ++ ((a ++ (codes "." ++ b)) ++ codes ".log")
regroup a b = ap (λ (o : List ℕ). codes "mailboxes/b." ++ o) (sym (append_assoc a (codes "." ++ b) (codes ".log")))

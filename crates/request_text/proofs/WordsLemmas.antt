-- The words of the commands: which command they say.
use Rattle.std.specs.Prelude.{◌≡◌, ◌≤◌, ◌<◌, ◌^◌, ◌+◌, ◌-◌, ◌*◌, ℕ, nat_eq, false, List, [], ◌∷◌, length, map, take, drop, get_or, codes, Ok, Err, Result, IfOk}
use Rattle.std.proofs.Common.{sym, inl, inr, ◌∙◌, ap, subst, arith, refl}
use Rattle.std.proofs.lemmas.Bool.{cases_lt, eqb-false}
use Rattle.std.proofs.lemmas.Fmt.{decimal_injective}
use Rattle.std.proofs.lemmas.List.{get_or_past, take_all}
use Rattle.hex.specs.Hex.{IsBytes, encode_lower, decode_of}
use Rattle.hex.proofs.HexLemmas.{decode_of-encode_lower}
use Rattle.mdbox_base.specs.Keywords.{AreWordsOf}
use Rattle.mdbox_base.specs.Numbers.{decimal_text}
use Rattle.mdbox_base.specs.Words.{IsOctets, IsNumber, IsName}
use Rattle.mdbox_base.specs.declared.ids.StoreId.{StoreId}
use Rattle.mdbox_base.specs.declared.ids.Uid.{Uid}
use Rattle.request_text.specs.Commands.{words_of, AreCommandWords, IsInRange, Says, SaysOnly, SayNothing, NamesMailbox}
use Rattle.request_text.specs.declared.command.Command.{Command}
use Rattle.request_text.specs.declared.command.Command.TheVariants as command
use Rattle.request_text.proofs.GivenWordLemmas.{one_list, themselves}

pub one_word : {S : Type 0} → (f : S → List ℕ) (words : List S) (word : S) (text : List ℕ) → 1 ≤ length words → length words < 2 → word ≡ get_or words 0 word → f word ≡ text → map f words ≡ text ∷ []
one_word f [] word text l m e t = absurd (omega (arith, l))
one_word f (w ∷ []) word text l m e t = ap (λ (o : List ℕ). o ∷ []) (ap f (sym e) ∙ t)
one_word f (w ∷ v ∷ rest) word text l m e t = absurd (omega (arith, m))

-- two words
pub two_words : {S : Type 0} → (f : S → List ℕ) (words : List S) (first second : S) (a b : List ℕ) → 2 ≤ length words → length words < 3 → first ≡ get_or words 0 first → second ≡ get_or words 1 second
    → f first ≡ a → f second ≡ b → map f words ≡ a ∷ b ∷ []
two_words f [] first second a b l m p q s t = absurd (omega (arith, l))
two_words f (w ∷ []) first second a b l m p q s t = absurd (omega (arith, l))
two_words f (w ∷ v ∷ []) first second a b l m p q s t =
    let h : f w ≡ a = ap f (sym p) ∙ s in
    let k : f v ≡ b = ap f (sym q) ∙ t in
    rw (h, k) refl
two_words f (w ∷ v ∷ u ∷ rest) first second a b l m p q s t = absurd (omega (arith, m))

-- three words, and others
pub three_and : {S : Type 0} → (f : S → List ℕ) (words others : List S) (w0 w1 w2 : S) (a b c : List ℕ) → 3 ≤ length words → w0 ≡ get_or words 0 w0 → w1 ≡ get_or words 1 w1 → w2 ≡ get_or words 2 w2 → others ≡ take (length words - 3) (drop 3 words)
    → f w0 ≡ a → f w1 ≡ b → f w2 ≡ c → map f words ≡ a ∷ b ∷ c ∷ map f others
three_and f [] others w0 w1 w2 a b c l p q r o t u v = absurd (omega (arith, l))
three_and f (x ∷ []) others w0 w1 w2 a b c l p q r o t u v = absurd (omega (arith, l))
three_and f (x ∷ y ∷ []) others w0 w1 w2 a b c l p q r o t u v = absurd (omega (arith, l))
three_and f (x ∷ y ∷ z ∷ rest) others w0 w1 w2 a b c l p q r o t u v =
    let h : f x ≡ a = ap f (sym p) ∙ t in
    let i : f y ≡ b = ap f (sym q) ∙ u in
    let j : f z ≡ c = ap f (sym r) ∙ v in
    let k : map f rest ≡ map f others = ap (map f) (sym (o ∙ take_all (length (x ∷ y ∷ z ∷ rest) - 3) rest (omega arith))) in
    rw (h, i, j, k) refl

-- numbers in decimal
pub other_decimal : (m n : ℕ) (text : List ℕ) → m < 2 ^ 64 → n < 2 ^ 64 → text ≡ decimal_text m → text ≡ decimal_text n → m ≡ n
other_decimal m n text hm hn p q = decimal_injective m n hm hn (sym p ∙ q)

-- octets in hexadecimal digits
octets_are_bytes : (xs : List ℕ) → IsOctets xs → IsBytes xs
octets_are_bytes xs h i =
    elim (cases_lt i (length xs)) [ inl lt ↦ h i 0 lt | inr le ↦ rw (get_or_past xs i 0 le) (omega arith) ]

hex_same : (xs ys : List ℕ) → IsOctets xs → IsOctets ys → encode_lower xs ≡ encode_lower ys → xs ≡ ys
hex_same xs ys p q e =
    let k : Ok xs ≡ Ok ys = sym (decode_of-encode_lower xs (octets_are_bytes xs p)) ∙ ap decode_of e ∙ decode_of-encode_lower ys (octets_are_bytes ys q) in
    cc k

-- a number of the first word, by its first three letters and its length, which tells the commands' words apart
abbrev tag : List (List ℕ) → ℕ
tag ((c ∷ d ∷ e ∷ word) ∷ words) = 16777216 * c + 65536 * d + 256 * e + length word
tag other = 0

differ : (a b : List (List ℕ)) → a ≡ b → nat_eq (tag a) (tag b) ≡ false → ⊥
differ a b e h = eqb-false (tag a) (tag b) h (ap tag e)

id_same : (a b : StoreId) → IsInRange (command.Init a) → IsInRange (command.Init b) → words_of (command.Init a) ≡ words_of (command.Init b) → a ≡ b
id_same a b p q e =
    let words : encode_lower a.0 ∷ [] ≡ encode_lower b.0 ∷ [] = cc e in
    let h : a.0 ≡ b.0 = hex_same a.0 b.0 p.1 q.1 (cc words) in
    ap (λ (n : List ℕ). let i : StoreId = record { 0 = n } in i) h

rebuild_same : (a b : StoreId) → IsInRange (command.Rebuild a) → IsInRange (command.Rebuild b) → words_of (command.Rebuild a) ≡ words_of (command.Rebuild b) → a ≡ b
rebuild_same a b p q e =
    let words : encode_lower a.0 ∷ [] ≡ encode_lower b.0 ∷ [] = cc e in
    let h : a.0 ≡ b.0 = hex_same a.0 b.0 p.1 q.1 (cc words) in
    ap (λ (n : List ℕ). let i : StoreId = record { 0 = n } in i) h

name_same : (a b : List ℕ) → words_of (command.List a) ≡ words_of (command.List b) → a ≡ b
name_same a b e =
    let words : a ∷ [] ≡ b ∷ [] = cc e in
    cc words

deliver_same : (a b : List ℕ) → words_of (command.Deliver a) ≡ words_of (command.Deliver b) → a ≡ b
deliver_same a b e =
    let words : a ∷ [] ≡ b ∷ [] = cc e in
    cc words

make_same : (a b : List ℕ) → words_of (command.Make a) ≡ words_of (command.Make b) → a ≡ b
make_same a b e =
    let words : a ∷ [] ≡ b ∷ [] = cc e in
    cc words

delete_same : (a b : List ℕ) → words_of (command.Delete a) ≡ words_of (command.Delete b) → a ≡ b
delete_same a b e =
    let words : a ∷ [] ≡ b ∷ [] = cc e in
    cc words

rename_same : (a b t w : List ℕ) → words_of (command.Rename a t) ≡ words_of (command.Rename b w) → command.Rename a t ≡ command.Rename b w
rename_same a b t w e =
    let words : a ∷ t ∷ [] ≡ b ∷ w ∷ [] = cc e in
    let name : a ≡ b = cc words in
    let last : t ∷ [] ≡ w ∷ [] = cc words in
    let target : t ≡ w = cc last in
    ap (λ (n : List ℕ). command.Rename n t) name ∙ ap (λ (n : List ℕ). command.Rename b n) target

fetch_same : (a b : List ℕ) (u v : Uid) → IsInRange (command.Fetch a u) → IsInRange (command.Fetch b v) → words_of (command.Fetch a u) ≡ words_of (command.Fetch b v) → command.Fetch a u ≡ command.Fetch b v
fetch_same a b u v p q e =
    let words : a ∷ decimal_text u.0 ∷ [] ≡ b ∷ decimal_text v.0 ∷ [] = cc e in
    let name : a ≡ b = cc words in
    let numbers : decimal_text u.0 ∷ [] ≡ decimal_text v.0 ∷ [] = cc words in
    let uids : decimal_text u.0 ≡ decimal_text v.0 = cc numbers in
    let uid : u.0 ≡ v.0 = decimal_injective u.0 v.0 (omega (arith, p.1.high)) (omega (arith, q.1.high)) uids in
    ap (λ (n : List ℕ). command.Fetch n u) name ∙ ap (λ (n : ℕ). command.Fetch b (record { 0 = n })) uid

flag_same : (a b : List ℕ) (u v : Uid) (f g : ℕ) → IsInRange (command.Flag a u f) → IsInRange (command.Flag b v g) → words_of (command.Flag a u f) ≡ words_of (command.Flag b v g) → command.Flag a u f ≡ command.Flag b v g
flag_same a b u v f g p q e =
    let words : a ∷ decimal_text u.0 ∷ decimal_text f ∷ [] ≡ b ∷ decimal_text v.0 ∷ decimal_text g ∷ [] = cc e in
    let name : a ≡ b = cc words in
    let numbers : decimal_text u.0 ∷ decimal_text f ∷ [] ≡ decimal_text v.0 ∷ decimal_text g ∷ [] = cc words in
    let uids : decimal_text u.0 ≡ decimal_text v.0 = cc numbers in
    let last : decimal_text f ∷ [] ≡ decimal_text g ∷ [] = cc numbers in
    let bits : decimal_text f ≡ decimal_text g = cc last in
    let uid : u.0 ≡ v.0 = decimal_injective u.0 v.0 (omega (arith, p.1.high)) (omega (arith, q.1.high)) uids in
    let flags : f ≡ g = decimal_injective f g (omega (arith, p.2)) (omega (arith, q.2)) bits in
    ap (λ (n : List ℕ). command.Flag n u f) name ∙ ap (λ (n : ℕ). command.Flag b (record { 0 = n }) f) uid ∙ ap (λ (n : ℕ). command.Flag b v n) flags

keywords_same : (a b : List ℕ) (u v : Uid) (w x words : List (List ℕ)) → Says words (command.Keywords a u w) → Says words (command.Keywords b v x) → command.Keywords a u w ≡ command.Keywords b v x
keywords_same a b u v w x words p q =
    let said : codes "keywords" ∷ a ∷ decimal_text u.0 ∷ p.1.0 ≡ codes "keywords" ∷ b ∷ decimal_text v.0 ∷ q.1.0 = sym p.1.2 ∙ q.1.2 in
    let words : a ∷ decimal_text u.0 ∷ p.1.0 ≡ b ∷ decimal_text v.0 ∷ q.1.0 = cc said in
    let name : a ≡ b = cc words in
    let rest : decimal_text u.0 ∷ p.1.0 ≡ decimal_text v.0 ∷ q.1.0 = cc words in
    let uids : decimal_text u.0 ≡ decimal_text v.0 = cc rest in
    let given : p.1.0 ≡ q.1.0 = cc rest in
    let uid : u.0 ≡ v.0 = decimal_injective u.0 v.0 (omega (arith, p.0.1.high)) (omega (arith, q.0.1.high)) uids in
    let texts : w ≡ x = one_list p.1.0 w x p.1.1 (subst (λ (g : List (List ℕ)). AreWordsOf g x) (sym given) q.1.1) in
    ap (λ (n : List ℕ). command.Keywords n u w) name ∙ ap (λ (n : ℕ). command.Keywords b (record { 0 = n }) w) uid ∙ ap (λ (t : List (List ℕ)). command.Keywords b v t) texts

expunge_same : (a b : List ℕ) (u v : Uid) → IsInRange (command.Expunge a u) → IsInRange (command.Expunge b v) → words_of (command.Expunge a u) ≡ words_of (command.Expunge b v) → command.Expunge a u ≡ command.Expunge b v
expunge_same a b u v p q e =
    let words : a ∷ decimal_text u.0 ∷ [] ≡ b ∷ decimal_text v.0 ∷ [] = cc e in
    let name : a ≡ b = cc words in
    let numbers : decimal_text u.0 ∷ [] ≡ decimal_text v.0 ∷ [] = cc words in
    let uids : decimal_text u.0 ≡ decimal_text v.0 = cc numbers in
    let uid : u.0 ≡ v.0 = decimal_injective u.0 v.0 (omega (arith, p.1.high)) (omega (arith, q.1.high)) uids in
    ap (λ (n : List ℕ). command.Expunge n u) name ∙ ap (λ (n : ℕ). command.Expunge b (record { 0 = n })) uid

copy_same : (a b : List ℕ) (u v : Uid) (t w : List ℕ) → IsInRange (command.Copy a u t) → IsInRange (command.Copy b v w) → words_of (command.Copy a u t) ≡ words_of (command.Copy b v w) → command.Copy a u t ≡ command.Copy b v w
copy_same a b u v t w p q e =
    let words : a ∷ decimal_text u.0 ∷ t ∷ [] ≡ b ∷ decimal_text v.0 ∷ w ∷ [] = cc e in
    let name : a ≡ b = cc words in
    let rest : decimal_text u.0 ∷ t ∷ [] ≡ decimal_text v.0 ∷ w ∷ [] = cc words in
    let uids : decimal_text u.0 ≡ decimal_text v.0 = cc rest in
    let last : t ∷ [] ≡ w ∷ [] = cc rest in
    let target : t ≡ w = cc last in
    let uid : u.0 ≡ v.0 = decimal_injective u.0 v.0 (omega (arith, p.1.high)) (omega (arith, q.1.high)) uids in
    ap (λ (n : List ℕ). command.Copy n u t) name ∙ ap (λ (n : ℕ). command.Copy b (record { 0 = n }) t) uid ∙ ap (λ (n : List ℕ). command.Copy b v n) target

move_same : (a b : List ℕ) (u v : Uid) (t w : List ℕ) → IsInRange (command.Move a u t) → IsInRange (command.Move b v w) → words_of (command.Move a u t) ≡ words_of (command.Move b v w) → command.Move a u t ≡ command.Move b v w
move_same a b u v t w p q e =
    let words : a ∷ decimal_text u.0 ∷ t ∷ [] ≡ b ∷ decimal_text v.0 ∷ w ∷ [] = cc e in
    let name : a ≡ b = cc words in
    let rest : decimal_text u.0 ∷ t ∷ [] ≡ decimal_text v.0 ∷ w ∷ [] = cc words in
    let uids : decimal_text u.0 ≡ decimal_text v.0 = cc rest in
    let last : t ∷ [] ≡ w ∷ [] = cc rest in
    let target : t ≡ w = cc last in
    let uid : u.0 ≡ v.0 = decimal_injective u.0 v.0 (omega (arith, p.1.high)) (omega (arith, q.1.high)) uids in
    ap (λ (n : List ℕ). command.Move n u t) name ∙ ap (λ (n : ℕ). command.Move b (record { 0 = n }) t) uid ∙ ap (λ (n : List ℕ). command.Move b v n) target

batch_same : (a b : ℕ) → IsInRange (command.Batch a) → IsInRange (command.Batch b) → words_of (command.Batch a) ≡ words_of (command.Batch b) → command.Batch a ≡ command.Batch b
batch_same a b p q e =
    let words : decimal_text a ∷ [] ≡ decimal_text b ∷ [] = cc e in
    let numbers : decimal_text a ≡ decimal_text b = cc words in
    let lanes : a ≡ b = decimal_injective a b (omega (arith, p.1)) (omega (arith, q.1)) numbers in
    ap (λ (n : ℕ). command.Batch n) lanes

exercise_same : (a b m n x y : ℕ) → IsInRange (command.Exercise a m x) → IsInRange (command.Exercise b n y) → words_of (command.Exercise a m x) ≡ words_of (command.Exercise b n y) → command.Exercise a m x ≡ command.Exercise b n y
exercise_same a b m n x y p q e =
    let words : decimal_text a ∷ decimal_text m ∷ decimal_text x ∷ [] ≡ decimal_text b ∷ decimal_text n ∷ decimal_text y ∷ [] = cc e in
    let firsts : decimal_text a ≡ decimal_text b = cc words in
    let rest : decimal_text m ∷ decimal_text x ∷ [] ≡ decimal_text n ∷ decimal_text y ∷ [] = cc words in
    let seconds : decimal_text m ≡ decimal_text n = cc rest in
    let last : decimal_text x ∷ [] ≡ decimal_text y ∷ [] = cc rest in
    let thirds : decimal_text x ≡ decimal_text y = cc last in
    let lanes : a ≡ b = decimal_injective a b (omega (arith, p.1)) (omega (arith, q.1)) firsts in
    let count : m ≡ n = decimal_injective m n (omega (arith, p.3)) (omega (arith, q.3)) seconds in
    let number : x ≡ y = decimal_injective x y p.4 q.4 thirds in
    ap (λ (l : ℕ). command.Exercise l m x) lanes ∙ ap (λ (c : ℕ). command.Exercise b c x) count ∙ ap (λ (s : ℕ). command.Exercise b n s) number

same_words : (a b : Command) → IsInRange a → IsInRange b → words_of a ≡ words_of b → a ≡ b
same_words (command.Init a) (command.Init b) p q e = ap (λ (i : StoreId). command.Init i) (id_same a b p q e)
same_words (command.List a) (command.List b) p q e = ap (λ (n : List ℕ). command.List n) (name_same a b e)
same_words (command.Deliver a) (command.Deliver b) p q e = ap (λ (n : List ℕ). command.Deliver n) (deliver_same a b e)
same_words (command.Fetch a u) (command.Fetch b v) p q e = fetch_same a b u v p q e
same_words (command.Flag a u f) (command.Flag b v g) p q e = flag_same a b u v f g p q e
same_words (command.Keywords a u w) (command.Keywords b v x) p q e = keywords_same a b u v w x (words_of (command.Keywords a u w)) (p, (w, themselves w p.2, refl)) (q, (x, themselves x q.2, e))
same_words (command.Expunge a u) (command.Expunge b v) p q e = expunge_same a b u v p q e
same_words (command.Copy a u t) (command.Copy b v w) p q e = copy_same a b u v t w p q e
same_words (command.Move a u t) (command.Move b v w) p q e = move_same a b u v t w p q e
same_words (command.Make a) (command.Make b) p q e = ap (λ (n : List ℕ). command.Make n) (make_same a b e)
same_words (command.Delete a) (command.Delete b) p q e = ap (λ (n : List ℕ). command.Delete n) (delete_same a b e)
same_words (command.Rename a t) (command.Rename b w) p q e = rename_same a b t w e
same_words (command.Batch a) (command.Batch b) p q e = batch_same a b p q e
same_words (command.Exercise a m x) (command.Exercise b n y) p q e = exercise_same a b m n x y p q e
same_words (command.Rebuild a) (command.Rebuild b) p q e = ap (λ (i : StoreId). command.Rebuild i) (rebuild_same a b p q e)
same_words command.Boxes command.Boxes p q e = refl
same_words command.Counts command.Counts p q e = refl
same_words command.Purge command.Purge p q e = refl
same_words command.Resync command.Resync p q e = refl
same_words command.Serve command.Serve p q e = refl
same_words command.Dump command.Dump p q e = refl
same_words command.LogDump command.LogDump p q e = refl
same_words command.Help command.Help p q e = refl
same_words command.Version command.Version p q e = refl
same_words a b p q e = absurd (differ (words_of a) (words_of b) e refl)

-- the first word is the verb
first_word : (c : Command) (words : List (List ℕ)) → AreCommandWords c words → tag words ≡ tag (words_of c)
first_word (command.Keywords name uid texts) words e = ap tag e.2
first_word c words e = ap tag e

other_verb : (words : List (List ℕ)) (a b : Command) → AreCommandWords a words → AreCommandWords b words → nat_eq (tag (words_of a)) (tag (words_of b)) ≡ false → ⊥
other_verb words a b p q h = eqb-false (tag (words_of a)) (tag (words_of b)) h (sym (first_word a words p) ∙ first_word b words q)

same_said : (a b : Command) (words : List (List ℕ)) → Says words a → Says words b → a ≡ b
same_said (command.Keywords a u w) (command.Keywords b v x) words p q = keywords_same a b u v w x words p q
same_said (command.Keywords a u w) b words p q = absurd (other_verb words (command.Keywords a u w) b p.1 q.1 refl)
same_said a (command.Keywords b v x) words p q = absurd (other_verb words a (command.Keywords b v x) p.1 q.1 refl)
same_said a b words p q = same_words a b p.0 q.0 (sym p.1 ∙ q.1)

-- words say one command at most
pub says_only : (words : List (List ℕ)) (command : Command) → Says words command → SaysOnly words command
says_only words command p = record { says = p; only = λ other q. same_said other command words q p }

-- the words are two
pub said_only : {X : Type 0} → (r : Result Command X) (words two : List (List ℕ)) → IfOk r (Says two) → words ≡ two → IfOk r (SaysOnly words)
said_only (Ok command) words two p e = says_only words command (subst (λ (said : List (List ℕ)). Says said command) (sym e) p)
said_only (Err x) words two p e = tt

-- words that say a command which names a mailbox
pub said_some : (words some : List (List ℕ)) → ((command : Command) × NamesMailbox command × Says some command) → words ≡ some → (command : Command) × NamesMailbox command × SaysOnly words command
said_some words some s e = (s.0, s.1, says_only words s.0 (subst (λ (said : List (List ℕ)). Says said s.0) (sym e) s.2))

-- words that name a mailbox and a UID
pub fetch_says : (name uid : List ℕ) (u : Uid) → IsName name → IsNumber u.0 × (uid ≡ decimal_text u.0) → Says (codes "fetch" ∷ name ∷ uid ∷ []) (command.Fetch name u)
fetch_says name uid u n p = ((n, p.0), ap (λ (t : List ℕ). codes "fetch" ∷ name ∷ t ∷ []) p.1)

pub expunge_says : (name uid : List ℕ) (u : Uid) → IsName name → IsNumber u.0 × (uid ≡ decimal_text u.0) → Says (codes "expunge" ∷ name ∷ uid ∷ []) (command.Expunge name u)
expunge_says name uid u n p = ((n, p.0), ap (λ (t : List ℕ). codes "expunge" ∷ name ∷ t ∷ []) p.1)

pub copy_says : (name uid target : List ℕ) (u : Uid) → IsName name × IsName target → IsNumber u.0 × (uid ≡ decimal_text u.0) → Says (codes "copy" ∷ name ∷ uid ∷ target ∷ []) (command.Copy name u target)
copy_says name uid target u n p = ((n.0, p.0, n.1), ap (λ (t : List ℕ). codes "copy" ∷ name ∷ t ∷ target ∷ []) p.1)

pub move_says : (name uid target : List ℕ) (u : Uid) → IsName name × IsName target → IsNumber u.0 × (uid ≡ decimal_text u.0) → Says (codes "move" ∷ name ∷ uid ∷ target ∷ []) (command.Move name u target)
move_says name uid target u n p = ((n.0, p.0, n.1), ap (λ (t : List ℕ). codes "move" ∷ name ∷ t ∷ target ∷ []) p.1)

-- words that name a mailbox, a UID and flags
pub flag_says : (name uid flags : List ℕ) (u : Uid) (f : ℕ) → IsName name → IsNumber u.0 × (uid ≡ decimal_text u.0) → (f ≤ 31) × (flags ≡ decimal_text f) → Says (codes "flag" ∷ name ∷ uid ∷ flags ∷ []) (command.Flag name u f)
flag_says name uid flags u f n p q = ((n, p.0, q.0), ap (λ (t : List ℕ). codes "flag" ∷ name ∷ t ∷ flags ∷ []) p.1 ∙ ap (λ (t : List ℕ). codes "flag" ∷ name ∷ decimal_text u.0 ∷ t ∷ []) q.1)

-- words that name a mailbox, a UID and keywords
pub keywords_says : (name uid : List ℕ) (given texts : List (List ℕ)) (u : Uid) → IsName name → IsNumber u.0 × (uid ≡ decimal_text u.0) → AreWordsOf given texts → Says (codes "keywords" ∷ name ∷ uid ∷ given) (command.Keywords name u texts)
keywords_says name uid given texts u n p of = ((n, p.0, of.words_are), (given, of, ap (λ (t : List ℕ). codes "keywords" ∷ name ∷ t ∷ given) p.1))

-- and what they say, if they say a command
pub no_keywords : (name uid : List ℕ) (given : List (List ℕ)) → ((u : Uid) (texts : List (List ℕ)) → IsName name → IsNumber u.0 → uid ≡ decimal_text u.0 → AreWordsOf given texts → ⊥) → SayNothing (codes "keywords" ∷ name ∷ uid ∷ given)
no_keywords name uid given none (command.Keywords n u w) s =
    let words : name ∷ uid ∷ given ≡ n ∷ decimal_text u.0 ∷ s.1.0 = (let said = s.1.2 in cc said) in
    let first : name ≡ n = cc words in
    let rest : uid ∷ given ≡ decimal_text u.0 ∷ s.1.0 = cc words in
    let second : uid ≡ decimal_text u.0 = cc rest in
    let others : given ≡ s.1.0 = cc rest in
    none u w (subst IsName (sym first) s.0.0) s.0.1 second (subst (λ (g : List (List ℕ)). AreWordsOf g w) (sym others) s.1.1)
no_keywords name uid given none c s = eqb-false (tag (codes "keywords" ∷ name ∷ uid ∷ given)) (tag (words_of c)) refl (first_word c (codes "keywords" ∷ name ∷ uid ∷ given) s.1)

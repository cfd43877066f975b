-- No message is the front of another, and octets are one storage file at most.
use Rattle.std.specs.Prelude.{◌≡◌, ℕ, List, [], ◌∷◌, ◌++◌, length, refl, Some, flat_map, Bool, true, false, ◌&&◌, IsTrue, nat_eq}
use Rattle.std.specs.List.{AllByRecursion, list_all}
use Rattle.std.proofs.Common.{sym, ◌∙◌, ap, append_assoc, subst}
use Rattle.std.proofs.lemmas.Bool.{eqb-false}
use Rattle.mdbox_base.specs.Numbers.{IsHex, hex_from}
use Rattle.model_storage.specs.Grammars.{IsPrefixFree, RunEnds}
use Rattle.model_octets.proofs.PiecesLemmas.{split_same}
use Rattle.model_storage.specs.StorageFile.{Line, IsLine, is_no_end, line_text, Message, IsMessageHeader, IsBlock, IsMessage, AreMessages, is_letter_or_digit, IsField, field_text, values_of, IsHeaderLine, IsFile}

pub second : (a b : Bool) → IsTrue (a && b) → IsTrue b
second true b h = h
second false b h = cc h

pub first : (a b : Bool) → IsTrue (a && b) → IsTrue a
first true b h = refl
first false b h = cc h

both : {A B C : Type 0} → (f : A → B → C) (a b : A) (x y : B) → a ≡ b → x ≡ y → f a x ≡ f b y
both f a b x y p q = cc

refuted : (test : ℕ → Bool) (c d : ℕ) (rest : Bool) → IsTrue (test c && rest) → test d ≡ false → c ≡ d → ⊥
refuted test c d rest h fails e =
    let yes : IsTrue (test c) = first (test c) rest h in
    let f : test c ≡ false = ap test e ∙ fails in
    cc (yes, f)

pub run_same : (test : ℕ → Bool) (a b x y : List ℕ) → IsTrue (list_all test a) → IsTrue (list_all test b) → RunEnds test x → RunEnds test y → a ++ x ≡ b ++ y → (a ≡ b) × (x ≡ y)
run_same test [] [] x y pa pb ex ey e = (refl, e)
run_same test [] (b ∷ bs) [] y pa pb ex ey e = absurd (cc e)
run_same test [] (b ∷ bs) (c ∷ x) y pa pb ex ey e = absurd (let h : b ≡ c = cc in refuted test b c (list_all test bs) pb ex h)
run_same test (a ∷ us) [] x [] pa pb ex ey e = absurd (cc e)
run_same test (a ∷ us) [] x (c ∷ y) pa pb ex ey e = absurd (let h : a ≡ c = cc in refuted test a c (list_all test us) pa ey h)
run_same test (a ∷ us) (b ∷ bs) x y pa pb ex ey e =
    let h : a ≡ b = cc in
    let t : us ++ x ≡ bs ++ y = cc in
    let r : (us ≡ bs) × (x ≡ y) = run_same test us bs x y (second (test a) (list_all test us) pa) (second (test b) (list_all test bs) pb) ex ey t in
    (cc (r.0, h), r.1)

abbrev pub made : ℕ → List ℕ → Line
made key value = record { key = key; value = value }

abbrev made_message : List ℕ → List Line → Message
made_message body lines = record { body = body; lines = lines }

pub line_of : (l m : Line) → l.key ≡ m.key → l.value ≡ m.value → l ≡ m
line_of l m k v = both made l.key m.key l.value m.value k v

regroup : (k : ℕ) (v rest x : List ℕ) → (k ∷ (v ++ 10 ∷ []) ++ rest) ++ x ≡ k ∷ (v ++ 10 ∷ (rest ++ x))
regroup k v rest x = ap (λ (t : List ℕ). k ∷ t) (append_assoc (v ++ 10 ∷ []) rest x ∙ append_assoc v (10 ∷ []) (rest ++ x))

pub no_key : (k : ℕ) → IsTrue (is_no_end k) → 10 ≡ k → ⊥
no_key k h e = let f : IsTrue (is_no_end 10) = subst (λ (c : ℕ). IsTrue (is_no_end c)) (sym e) h in cc f

-- rows of lines, each with an empty line behind, are one row
pub lines_same : (ls ms : List Line) (x y : List ℕ) → AllByRecursion IsLine ls → AllByRecursion IsLine ms → flat_map line_text ls ++ 10 ∷ x ≡ flat_map line_text ms ++ 10 ∷ y → (ls ≡ ms) × (x ≡ y)
lines_same [] [] x y pl pm e = (refl, cc)
lines_same [] (m ∷ ms) x y pl pm e = absurd (let h : 10 ≡ m.key = cc in no_key m.key pm.0.key h)
lines_same (l ∷ ls) [] x y pl pm e = absurd (let h : l.key ≡ 10 = cc in no_key l.key pl.0.key (sym h))
lines_same (l ∷ ls) (m ∷ ms) x y pl pm e =
    let f : l.key ∷ (l.value ++ 10 ∷ (flat_map line_text ls ++ 10 ∷ x)) ≡ m.key ∷ (m.value ++ 10 ∷ (flat_map line_text ms ++ 10 ∷ y)) =
    sym (regroup l.key l.value (flat_map line_text ls) (10 ∷ x)) ∙ e ∙ regroup m.key m.value (flat_map line_text ms) (10 ∷ y) in
    let k : l.key ≡ m.key = cc in
    let t : l.value ++ 10 ∷ (flat_map line_text ls ++ 10 ∷ x) ≡ m.value ++ 10 ∷ (flat_map line_text ms ++ 10 ∷ y) = cc in
    let v : (l.value ≡ m.value) × (10 ∷ (flat_map line_text ls ++ 10 ∷ x) ≡ 10 ∷ (flat_map line_text ms ++ 10 ∷ y)) = run_same is_no_end l.value m.value _ _ pl.0.value pm.0.value refl refl t in
    let u : flat_map line_text ls ++ 10 ∷ x ≡ flat_map line_text ms ++ 10 ∷ y = let w = v.1 in cc in
    let r : (ls ≡ ms) × (x ≡ y) = lines_same ls ms x y pl.1 pm.1 u in
    (cc (line_of l m k v.0, r.0), r.1)

headed : (filler digits x : List ℕ) → (1 ∷ 2 ∷ 78 ∷ (filler ++ (digits ++ 10 ∷ []))) ++ x ≡ 1 ∷ 2 ∷ 78 ∷ (filler ++ (digits ++ 10 ∷ x))
headed filler digits x = simp append_assoc

header_texts : (f1 f2 d1 d2 a b : List ℕ) → a ≡ 1 ∷ 2 ∷ 78 ∷ (f1 ++ (d1 ++ 10 ∷ [])) → b ≡ 1 ∷ 2 ∷ 78 ∷ (f2 ++ (d2 ++ 10 ∷ [])) → f1 ≡ f2 → d1 ≡ d2 → a ≡ b
header_texts f1 f2 d1 d2 a b ea eb e1 e2 = cc

-- no header of a message is the front of another
pub message_header_same : IsPrefixFree IsMessageHeader
message_header_same a b x y m n pa pb e =
    let f : 1 ∷ 2 ∷ 78 ∷ (pa.filler ++ (pa.digits ++ 10 ∷ x)) ≡ 1 ∷ 2 ∷ 78 ∷ (pb.filler ++ (pb.digits ++ 10 ∷ y)) =
    sym (headed pa.filler pa.digits x) ∙ ap (λ (t : List ℕ). t ++ x) (sym pa.spelled) ∙ e ∙ ap (λ (t : List ℕ). t ++ y) pb.spelled ∙ headed pb.filler pb.digits y in
    let f2 : pa.filler ++ (pa.digits ++ 10 ∷ x) ≡ pb.filler ++ (pb.digits ++ 10 ∷ y) = cc in
    let g = split_same pa.filler pb.filler _ _ (pa.filler_length ∙ sym pb.filler_length) f2 in
    let h = split_same pa.digits pb.digits _ _ (pa.digits_length ∙ sym pb.digits_length) g.1 in
    let size : Some m ≡ Some n = sym pa.value ∙ ap (hex_from 0) h.0 ∙ pb.value in
    (header_texts pa.filler pb.filler pa.digits pb.digits a b pa.spelled pb.spelled g.0 h.0, cc size)

blocked : (lines x : List ℕ) → (10 ∷ 1 ∷ 3 ∷ 10 ∷ (lines ++ 10 ∷ [])) ++ x ≡ 10 ∷ 1 ∷ 3 ∷ 10 ∷ (lines ++ 10 ∷ x)
blocked lines x = simp append_assoc

block_texts : (ls ms : List Line) (a b : List ℕ) → a ≡ 10 ∷ 1 ∷ 3 ∷ 10 ∷ (flat_map line_text ls ++ 10 ∷ []) → b ≡ 10 ∷ 1 ∷ 3 ∷ 10 ∷ (flat_map line_text ms ++ 10 ∷ []) → ls ≡ ms → a ≡ b
block_texts ls ms a b ea eb e = cc

-- no block of metadata is the front of another
pub block_same : IsPrefixFree IsBlock
block_same a b x y ls ms pa pb e =
    let f : 10 ∷ 1 ∷ 3 ∷ 10 ∷ (flat_map line_text ls ++ 10 ∷ x) ≡ 10 ∷ 1 ∷ 3 ∷ 10 ∷ (flat_map line_text ms ++ 10 ∷ y) =
    sym (blocked (flat_map line_text ls) x) ∙ ap (λ (t : List ℕ). t ++ x) (sym pa.spelled) ∙ e ∙ ap (λ (t : List ℕ). t ++ y) pb.spelled ∙ blocked (flat_map line_text ms) y in
    let f2 : flat_map line_text ls ++ 10 ∷ x ≡ flat_map line_text ms ++ 10 ∷ y = cc in
    let r = lines_same ls ms x y pa.each pb.each f2 in
    (block_texts ls ms a b pa.spelled pb.spelled r.0, r.0)

three : (a b c x : List ℕ) → (a ++ (b ++ c)) ++ x ≡ a ++ (b ++ (c ++ x))
three a b c x = simp append_assoc

texts_same : (h1 h2 b1 b2 k1 k2 a b : List ℕ) → a ≡ h1 ++ (b1 ++ k1) → b ≡ h2 ++ (b2 ++ k2) → h1 ≡ h2 → b1 ≡ b2 → k1 ≡ k2 → a ≡ b
texts_same h1 h2 b1 b2 k1 k2 a b ea eb e1 e2 e3 = cc

-- No message is the front of another.
pub message_same : IsPrefixFree IsMessage
message_same a b x y m n pa pb e =
    let f : pa.header ++ (m.body ++ (pa.block ++ x)) ≡ pb.header ++ (n.body ++ (pb.block ++ y)) =
    sym (three pa.header m.body pa.block x) ∙ ap (λ (t : List ℕ). t ++ x) (sym pa.spelled) ∙ e ∙ ap (λ (t : List ℕ). t ++ y) pb.spelled ∙ three pb.header n.body pb.block y in
    let g = message_header_same pa.header pb.header _ _ _ _ pa.begins pb.begins f in
    let f2 = (split_same pa.header pb.header _ _ (ap length g.0) f).1 in
    let h = split_same m.body n.body _ _ g.1 f2 in
    let k = block_same pa.block pb.block x y m.lines n.lines pa.ends pb.ends h.1 in (
      texts_same pa.header pb.header m.body n.body pa.block pb.block a b pa.spelled pb.spelled g.0 h.0 k.0,
      both made_message m.body n.body m.lines n.lines h.0 k.1,
    )

-- a spelling isn't empty
pub message_some : (a : List ℕ) (m : Message) → IsMessage a m → (x : List ℕ) → a ++ x ≡ [] → ⊥
message_some a m p x e =
    let h = p.begins in
    let f : 1 ∷ 2 ∷ 78 ∷ (h.filler ++ (h.digits ++ 10 ∷ (m.body ++ (p.block ++ x)))) ≡ [] =
    sym (headed h.filler h.digits (m.body ++ (p.block ++ x))) ∙ ap (λ (t : List ℕ). t ++ (m.body ++ (p.block ++ x))) (sym h.spelled) ∙ sym (three p.header m.body p.block x) ∙ ap (λ (t : List ℕ). t ++ x) (sym p.spelled) ∙ e in
    cc f

-- Octets have one list of messages at most.
pub messages_same : (octets : List ℕ) (ms ns : List Message) → AreMessages octets ms → AreMessages octets ns → ms ≡ ns
messages_same octets [] [] a b = refl
messages_same octets [] (n ∷ ns) a b = absurd (message_some b.0 n b.3 b.1 (sym b.2 ∙ a))
messages_same octets (m ∷ ms) [] a b = absurd (message_some a.0 m a.3 a.1 (sym a.2 ∙ b))
messages_same octets (m ∷ ms) (n ∷ ns) a b =
    let r = message_same a.0 b.0 a.1 b.1 m n a.3 b.3 (sym a.2 ∙ b.2) in
    let u = split_same a.0 b.0 a.1 b.1 (ap length r.0) (sym a.2 ∙ b.2) in
    let t : ms ≡ ns = messages_same b.1 ms ns (subst (λ (o : List ℕ). AreMessages o ms) u.1 a.4) b.4 in
    cc (r.1, t)

-- a space is no letter or digit, and LF neither
fields_end : (fields : List Line) (x : List ℕ) → RunEnds is_letter_or_digit (flat_map field_text fields ++ 10 ∷ x)
fields_end [] x = refl
fields_end (f ∷ fs) x = refl

field_grouped : (k : ℕ) (v rest x : List ℕ) → ((32 ∷ k ∷ v) ++ rest) ++ x ≡ 32 ∷ k ∷ (v ++ (rest ++ x))
field_grouped k v rest x = ap (λ (t : List ℕ). 32 ∷ k ∷ t) (append_assoc v rest x)

heads_differ : (a b : ℕ) (x y : List ℕ) → a ∷ x ≡ b ∷ y → nat_eq a b ≡ false → ⊥
heads_differ a b x y e h =
    let p : a ≡ b = cc in
    eqb-false a b h p

-- rows of fields, each with LF behind, are one row
pub fields_same : (fs gs : List Line) (x y : List ℕ) → AllByRecursion IsField fs → AllByRecursion IsField gs → flat_map field_text fs ++ 10 ∷ x ≡ flat_map field_text gs ++ 10 ∷ y → (fs ≡ gs) × (x ≡ y)
fields_same [] [] x y pf pg e = (refl, cc)
fields_same [] (g ∷ gs) x y pf pg e = absurd (heads_differ 10 32 x _ e refl)
fields_same (f ∷ fs) [] x y pf pg e = absurd (heads_differ 32 10 _ y e refl)
fields_same (f ∷ fs) (g ∷ gs) x y pf pg e =
    let w : 32 ∷ f.key ∷ (f.value ++ (flat_map field_text fs ++ 10 ∷ x)) ≡ 32 ∷ g.key ∷ (g.value ++ (flat_map field_text gs ++ 10 ∷ y)) =
    sym (field_grouped f.key f.value (flat_map field_text fs) (10 ∷ x)) ∙ e ∙ field_grouped g.key g.value (flat_map field_text gs) (10 ∷ y) in
    let k : f.key ≡ g.key = cc in
    let t : f.value ++ (flat_map field_text fs ++ 10 ∷ x) ≡ g.value ++ (flat_map field_text gs ++ 10 ∷ y) = cc in
    let v = run_same is_letter_or_digit f.value g.value _ _ pf.0.value pg.0.value (fields_end fs x) (fields_end gs y) t in
    let r : (fs ≡ gs) × (x ≡ y) = fields_same fs gs x y pf.1 pg.1 v.1 in
    (cc (line_of f g k v.0, r.0), r.1)

two_hex : (d1 d2 : List ℕ) (most m n : ℕ) (a b : List (List ℕ)) → a ≡ b → a ≡ d1 ∷ [] → b ≡ d2 ∷ [] → IsHex most d1 m → IsHex most d2 n → m ≡ n
two_hex d1 d2 most m n a b e ea eb p q =
    let d : d1 ≡ d2 = cc in
    let v : Some m ≡ Some n = sym p.value ∙ ap (hex_from 0) d ∙ q.value in
    cc v

header_line_grouped : (fields x : List ℕ) → (50 ∷ (fields ++ 10 ∷ [])) ++ x ≡ 50 ∷ (fields ++ 10 ∷ x)
header_line_grouped fields x = ap (λ (t : List ℕ). 50 ∷ t) (append_assoc fields (10 ∷ []) x)

header_line_texts : (fs gs : List Line) (a b : List ℕ) → a ≡ 50 ∷ (flat_map field_text fs ++ 10 ∷ []) → b ≡ 50 ∷ (flat_map field_text gs ++ 10 ∷ []) → fs ≡ gs → a ≡ b
header_line_texts fs gs a b ea eb e = cc

-- no header line is the front of another
pub header_line_same : IsPrefixFree IsHeaderLine
header_line_same a b x y m n pa pb e =
    let w : 50 ∷ (flat_map field_text pa.fields ++ 10 ∷ x) ≡ 50 ∷ (flat_map field_text pb.fields ++ 10 ∷ y) =
    sym (header_line_grouped (flat_map field_text pa.fields) x) ∙ ap (λ (t : List ℕ). t ++ x) (sym pa.spelled) ∙ e ∙ ap (λ (t : List ℕ). t ++ y) pb.spelled ∙ header_line_grouped (flat_map field_text pb.fields) y in
    let t : flat_map field_text pa.fields ++ 10 ∷ x ≡ flat_map field_text pb.fields ++ 10 ∷ y = cc in
    let r = fields_same pa.fields pb.fields x y pa.each pb.each t in (
      header_line_texts pa.fields pb.fields a b pa.spelled pb.spelled r.0,
      two_hex pa.size.0 pb.size.0 8 m n _ _ (ap (values_of 77) r.0) pa.size.1 pb.size.1 pa.size.2 pb.size.2,
    )

-- Octets are one storage file at most.
pub file_same : (octets h k : List ℕ) (ms ns : List Message) → IsFile octets h ms → IsFile octets k ns → (h ≡ k) × (ms ≡ ns)
file_same octets h k ms ns a b =
    let e = sym a.parts ∙ b.parts in
    let r = (header_line_same h k a.rest b.rest 30 30 a.begins b.begins e).0 in
    let u = split_same h k a.rest b.rest (ap length r) e in
    (r, messages_same b.rest ms ns (subst (λ (o : List ℕ). AreMessages o ms) u.1 a.follow) b.follow)

-- What a scan of octets gives is one answer.
use Rattle.std.specs.Prelude.{◌≡◌, ◌+◌, ℕ, List, [], ◌∷◌, ◌++◌, length, flat_map, refl, Result, Ok, Err}
use Rattle.std.proofs.Common.{sym, ◌∙◌, ap, append_assoc, append-nil, length-append, subst, arith}
use Rattle.model_storage.specs.declared.places.MessageAt.{MessageAt}
use Rattle.model_storage.specs.declared.places.ScanError.{ScanError}
use Rattle.model_storage.specs.declared.places.ScanError.TheVariants as scan
use Rattle.model_storage.specs.Grammars.{Begins, IsFrontOf}
use Rattle.model_octets.proofs.PiecesLemmas.{split_same}
use Rattle.model_storage.specs.StorageFile.{line_text, Message, IsMessage, AreMessages, IsHeaderLine, IsFile, place_at, message_places_from, StopsAt, IsRefused, ScanGives}
use Rattle.model_storage.proofs.FileLemmas.{message_same, message_some, header_line_same, file_same}

-- the octets of a message, counted
pub message_length : (octets : List ℕ) (m : Message) (offset : ℕ) → IsMessage octets m → offset + length octets ≡ (place_at offset m).end
message_length octets m offset p =
    let h = p.begins in
    let k = p.ends in
    omega (
      arith,
      ap length p.spelled,
      length-append p.header (m.body ++ p.block),
      length-append m.body p.block,
      ap length h.spelled,
      length-append h.filler (h.digits ++ 10 ∷ []),
      length-append h.digits (10 ∷ []),
      h.filler_length,
      h.digits_length,
      ap length k.spelled,
      length-append (flat_map line_text m.lines) (10 ∷ []),
    )

begins_longer : (f first behind r : List ℕ) (m : Message) → f ≡ first ++ behind → IsMessage first m → Begins IsMessage (f ++ r)
begins_longer f first behind r m e p = (first, behind ++ r, m, ap (λ (t : List ℕ). t ++ r) e ∙ append_assoc first behind r, p)

joined_same : (a b c d f g : List ℕ) → f ≡ a ++ b → g ≡ c ++ d → a ≡ c → b ≡ d → f ≡ g
joined_same a b c d f g ef eg p q = cc

-- whole messages up to a place where none stands are the same messages
pub fronts_same : (f g r s : List ℕ) (ms ns : List Message) → AreMessages f ms → AreMessages g ns → f ++ r ≡ g ++ s → ¬ Begins IsMessage r → ¬ Begins IsMessage s → f ≡ g
fronts_same f g r s [] [] a b e nr ns = a ∙ sym b
fronts_same f g r s [] (n ∷ more) a b e nr ns = absurd (nr (subst (Begins IsMessage) (sym e ∙ ap (λ (t : List ℕ). t ++ r) a) (begins_longer g b.0 b.1 s n b.2 b.3)))
fronts_same f g r s (m ∷ more) [] a b e nr ns = absurd (ns (subst (Begins IsMessage) (e ∙ ap (λ (t : List ℕ). t ++ s) b) (begins_longer f a.0 a.1 r m a.2 a.3)))
fronts_same f g r s (m ∷ ms) (n ∷ ns) a b e nr no_more =
    let w : a.0 ++ (a.1 ++ r) ≡ b.0 ++ (b.1 ++ s) =
    sym (append_assoc a.0 a.1 r) ∙ ap (λ (t : List ℕ). t ++ r) (sym a.2) ∙ e ∙ ap (λ (t : List ℕ). t ++ s) b.2 ∙ append_assoc b.0 b.1 s in
    let p = (message_same a.0 b.0 _ _ m n a.3 b.3 w).0 in
    let q = (split_same a.0 b.0 _ _ (ap length p) w).1 in
    joined_same a.0 a.1 b.0 b.1 f g a.2 b.2 p (fronts_same a.1 b.1 r s ms ns a.4 b.4 q nr no_more)

nothing_begins : Begins IsMessage [] → ⊥
nothing_begins b = message_some b.0 b.2 b.4 b.1 (sym b.3)

two_headers : (octets a b x y : List ℕ) (m n : ℕ) → octets ≡ a ++ x → octets ≡ b ++ y → IsHeaderLine a m → IsHeaderLine b n → (a ≡ b) × (x ≡ y) × (m ≡ n)
two_headers octets a b x y m n ea eb p q =
    let e = sym ea ∙ eb in
    let r = header_line_same a b x y m n p q e in
    (r.0, (split_same a b x y (ap length r.0) e).1, r.1)

offsets_same : (a b c d : List ℕ) (m n : ℕ) → m ≡ length a + length b → n ≡ length c + length d → a ≡ c → b ≡ d → m ≡ n
offsets_same a b c d m n em en p q = cc

-- the first place where no whole message stands is one
pub stops_same : (octets r s : List ℕ) (m n : ℕ) → StopsAt octets m r → StopsAt octets n s → (m ≡ n) × (r ≡ s)
stops_same octets r s m n a b =
    let h = two_headers octets a.header b.header _ _ 30 30 a.parts b.parts a.begins b.begins in
    let f = fronts_same a.front b.front r s a.messages b.messages a.whole b.whole h.1 a.none b.none in
    (offsets_same a.header a.front b.header b.front m n a.offset_is b.offset_is h.0 f, (split_same a.front b.front r s (ap length f) h.1).1)

-- a storage file has no such place
pub file_goes_on : (octets h r : List ℕ) (ms : List Message) (n : ℕ) → IsFile octets h ms → StopsAt octets n r → ⊥
file_goes_on octets h r ms n a b =
    let k = two_headers octets h b.header _ _ 30 30 a.parts b.parts a.begins b.begins in
    let e : a.rest ++ [] ≡ b.front ++ r = append-nil a.rest ∙ k.1 in
    let f = fronts_same a.rest b.front [] r ms b.messages a.follow b.whole e nothing_begins b.none in
    b.some (sym (split_same a.rest b.front [] r (ap length f) e).1)

behind_line : (octets a x : List ℕ) (n : ℕ) → octets ≡ a ++ x → IsHeaderLine a n → Begins IsHeaderLine octets
behind_line octets a x n e p = (a, x, n, e, p)

stopped_line : (octets r : List ℕ) (n : ℕ) → StopsAt octets n r → Begins IsHeaderLine octets
stopped_line octets r n s = behind_line octets s.header (s.front ++ r) 30 s.parts s.begins

-- octets are refused for one cause
pub refused_same : (octets : List ℕ) (a b : ScanError) → IsRefused octets a → IsRefused octets b → a ≡ b
refused_same octets scan.NoMemory b p q = absurd p
refused_same octets a scan.NoMemory p q = absurd q
refused_same octets scan.BadHeader scan.BadHeader p q = refl
refused_same octets scan.BadHeader (scan.HeaderSize n) p q = absurd (p (behind_line octets q.1.0 q.1.1 n q.1.2 q.1.3))
refused_same octets scan.BadHeader (scan.Truncated n) p q = absurd (p (stopped_line octets q.0 n q.1))
refused_same octets scan.BadHeader (scan.BadMessage n) p q = absurd (p (stopped_line octets q.0 n q.1))
refused_same octets (scan.HeaderSize m) scan.BadHeader p q = absurd (q (behind_line octets p.1.0 p.1.1 m p.1.2 p.1.3))
refused_same octets (scan.HeaderSize m) (scan.HeaderSize n) p q = ap scan.HeaderSize (two_headers octets p.1.0 q.1.0 _ _ m n p.1.2 q.1.2 p.1.3 q.1.3).2
refused_same octets (scan.HeaderSize m) (scan.Truncated n) p q = absurd (p.0 (two_headers octets p.1.0 q.1.header _ _ m 30 p.1.2 q.1.parts p.1.3 q.1.begins).2)
refused_same octets (scan.HeaderSize m) (scan.BadMessage n) p q = absurd (p.0 (two_headers octets p.1.0 q.1.header _ _ m 30 p.1.2 q.1.parts p.1.3 q.1.begins).2)
refused_same octets (scan.Truncated m) scan.BadHeader p q = absurd (q (stopped_line octets p.0 m p.1))
refused_same octets (scan.Truncated m) (scan.HeaderSize n) p q = absurd (q.0 (two_headers octets q.1.0 p.1.header _ _ n 30 q.1.2 p.1.parts q.1.3 p.1.begins).2)
refused_same octets (scan.Truncated m) (scan.Truncated n) p q = ap scan.Truncated (stops_same octets p.0 q.0 m n p.1 q.1).0
refused_same octets (scan.Truncated m) (scan.BadMessage n) p q = absurd (q.2 (subst (IsFrontOf IsMessage) (stops_same octets p.0 q.0 m n p.1 q.1).1 p.2))
refused_same octets (scan.BadMessage m) scan.BadHeader p q = absurd (q (stopped_line octets p.0 m p.1))
refused_same octets (scan.BadMessage m) (scan.HeaderSize n) p q = absurd (q.0 (two_headers octets q.1.0 p.1.header _ _ n 30 q.1.2 p.1.parts q.1.3 p.1.begins).2)
refused_same octets (scan.BadMessage m) (scan.Truncated n) p q = absurd (p.2 (subst (IsFrontOf IsMessage) (sym (stops_same octets p.0 q.0 m n p.1 q.1).1) q.2))
refused_same octets (scan.BadMessage m) (scan.BadMessage n) p q = ap scan.BadMessage (stops_same octets p.0 q.0 m n p.1 q.1).0

-- a storage file is not refused
pub file_not_refused : (octets h : List ℕ) (ms : List Message) (error : ScanError) → IsFile octets h ms → IsRefused octets error → ⊥
file_not_refused octets h ms scan.BadHeader a q = q (behind_line octets h a.rest 30 a.parts a.begins)
file_not_refused octets h ms (scan.HeaderSize n) a q = q.0 (two_headers octets q.1.0 h _ _ n 30 q.1.2 a.parts q.1.3 a.begins).2
file_not_refused octets h ms (scan.Truncated n) a q = file_goes_on octets h q.0 ms n a q.1
file_not_refused octets h ms (scan.BadMessage n) a q = file_goes_on octets h q.0 ms n a q.1
file_not_refused octets h ms scan.NoMemory a q = q

places_same : (h k : List ℕ) (ms ns : List Message) (xs ys : List MessageAt) → xs ≡ message_places_from (length h) ms → ys ≡ message_places_from (length k) ns → h ≡ k → ms ≡ ns → xs ≡ ys
places_same h k ms ns xs ys ex ey p q = cc

-- A scan gives one answer.
pub answer_same : (octets : List ℕ) (a b : Result (List MessageAt) ScanError) → ScanGives octets a → ScanGives octets b → a ≡ b
answer_same octets (Ok xs) (Ok ys) p q =
    let r = file_same octets p.0 q.0 p.1 q.1 p.2 q.2 in
    ap Ok (places_same p.0 q.0 p.1 q.1 xs ys p.3 q.3 r.0 r.1)
answer_same octets (Ok xs) (Err e) p q = absurd (file_not_refused octets p.0 p.1 e p.2 q)
answer_same octets (Err e) (Ok xs) p q = absurd (file_not_refused octets q.0 q.1 e q.2 p)
answer_same octets (Err e) (Err f) p q = ap Err (refused_same octets e f p q)

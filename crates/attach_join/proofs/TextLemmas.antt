-- The texts of instances, written over the ranges in which their octets are kept.
use Rattle.std.proofs.Common.{refl, ◌≡◌, ◌≤◌, ◌+◌, ◌-◌, ℕ, List, [], ◌∷◌, ◌++◌, length, take, drop, sym, ◌∙◌, ap, subst, arith, length-append}
use Rattle.std.specs.Prelude.{Option, Some}
use Rattle.std.proofs.Math.Seq.{drop-append-add, drop-append_seam, take-append_seam}
use Rattle.std.proofs.lemmas.List.{drop-drop, drop-take, length-drop, length-take-le, take-append-drop, take-take, take_all}
use Rattle.mdbox_base.specs.declared.entries.InstRow.{InstRow}
use Rattle.mdbox_base.specs.declared.metadata.ExtRef.{ExtRef}
use Rattle.mdbox_base.specs.declared.metadata.LineForm.{LineForm}
use Rattle.model_attach.specs.Rejoined.{IsWhole, part_text}
use Rattle.model_base64.specs.Base64Text.{IsForm, text_of}
use Rattle.b64_lines.specs.Writer.{HasWrittenText, WriterValue}
use Rattle.b64_lines.proofs.SizeLemmas.{longer_text}
use Rattle.attach_join.specs.Behind.{octets_in}
use Rattle.attach_join.specs.Kept.{FitInto, TextsFit, kept_in}
use Rattle.attach_join.specs.Spread.{RangesAreFilled, outside, outside_from}
use Rattle.attach_join.proofs.KeptLemmas.{AreForms, RangesWithin, agree_behind, agree_less, agree_part, all_within, next_range, outside_on, text_longer}
use Rattle.attach_join.proofs.OutsideLemmas.{filled}

-- ---- the lines of one instance

-- the octets at the end of a range
abbrev pub last_of : ℕ → List ℕ → List ℕ
last_of size range = drop (length range - size) range

-- Of the octets at the end of a range, those before a place are written, but for what the writer keeps; from the place on nothing has changed.
pub record IsWriting (form : LineForm) (size : ℕ) (old now : List ℕ) (place : ℕ) (writer : WriterValue) : Type 0 where
  pub long : length now ≡ length old
  pub from : length old - size ≤ place
  pub to : place ≤ length old
  pub form_is : writer.form ≡ form
  pub behind : drop place now ≡ drop place old
  pub written : HasWrittenText writer (take (place - (length old - size)) (last_of size old)) now

pub writing_begins : (form : LineForm) (size : ℕ) (old : List ℕ) (writer : WriterValue) → size ≤ length old → writer ≡ record { form = form; at = 0; carry = [] } → IsWriting form size old old (length old - size) writer
writing_begins form size old writer fits new =
    let none : length old - size - (length old - size) ≡ 0 = omega arith in
    subst (IsWriting form size old old (length old - size)) (sym new) (record {
      long = refl;
      from = omega arith;
      to = omega arith;
      form_is = refl;
      behind = refl;
      written = record { within = omega arith; text = λ more. ap (λ (n : ℕ). text_of form (take n (last_of size old) ++ more)) (sym none) };
    })

-- the piece that is read is what follows
next_octets : (size count : ℕ) (old now piece : List ℕ) (place : ℕ) → length old - size ≤ place → drop place now ≡ drop place old → piece ≡ take count (drop place now)
    → take (place - (length old - size)) (last_of size old) ++ piece ≡ take (place + count - (length old - size)) (last_of size old)
next_octets size count old now piece place from behind is =
    let start : ℕ = length old - size in
    let L : List ℕ = last_of size old in
    let here : drop (place - start) L ≡ drop place old = drop-drop (place - start) start old ∙ ap (λ (n : ℕ). drop n old) (let e : start + (place - start) ≡ place = omega (arith, from) in e) in
    let end : place + count - start ≡ place - start + count = omega (arith, from) in
    ap (λ (xs : List ℕ). take (place - start) L ++ xs) (is ∙ ap (take count) (behind ∙ sym here) ∙ sym (drop-take (place - start) count L))
    ∙ ap (λ (xs : List ℕ). xs ++ drop (place - start) (take (place - start + count) L)) (sym (take-take (place - start) (place - start + count) L (omega arith)))
    ∙ take-append-drop (place - start) (take (place - start + count) L) ∙ ap (λ (n : ℕ). take n L) (sym end)

pub piece_has_room : (form : LineForm) (size count : ℕ) (old now piece : List ℕ) (place : ℕ) (writer : WriterValue) → IsForm form → size ≤ length old → length (text_of form (last_of size old)) ≡ length old → IsWriting form size old now place writer → piece ≡ take count (drop place now)
    → length (text_of writer.form (take (place - (length old - size)) (last_of size old) ++ piece)) ≤ length now
piece_has_room form size count old now piece place writer good fits whole w is =
    let start : ℕ = length old - size in
    let same = ap (λ (f : LineForm). length (text_of f (take (place - start) (last_of size old) ++ piece))) w.form_is ∙ ap (λ (xs : List ℕ). length (text_of form xs)) (next_octets size count old now piece place w.from w.behind is) in
    let few = length-take-most (place + count - start) (last_of size old) in
    let more = longer_text form (take (place + count - start) (last_of size old)) (last_of size old) good few in
    let long = w.long in
    omega (arith, same, more, whole, long)
  where
    length-take-most : (n : ℕ) (xs : List ℕ) → length (take n xs) ≤ length xs
    length-take-most n xs = let l = ap length (take-append-drop n xs) in let s = length-append (take n xs) (drop n xs) in omega (arith, l, s)

-- what is written ends before what isn't read
ends_before : (form : LineForm) (octets now : List ℕ) (count : ℕ) (writer : WriterValue) → IsForm form → writer.form ≡ form → count ≤ length octets → HasWrittenText writer (take count octets) now → writer.at + (length octets - count) ≤ length (text_of form octets)
ends_before form octets now count writer good is most w =
    let rest : List ℕ = drop count octets in
    let all = ap length (w.text rest) in
    let one = length-append (take writer.at now) (text_of writer.form (writer.carry ++ rest)) in
    let at = length-take-le writer.at now w.within in
    let two = ap (λ (f : LineForm). length (text_of f (writer.carry ++ rest))) is in
    let least = text_longer form (writer.carry ++ rest) good in
    let three = length-append writer.carry rest in
    let left = length-drop count octets in
    let four = ap (λ (f : LineForm). length (text_of f (take count octets ++ rest))) is ∙ ap (λ (xs : List ℕ). length (text_of form xs)) (take-append-drop count octets) in
    omega (arith, all, one, at, two, least, three, left, four)

pub writing_goes_on : (form : LineForm) (size count : ℕ) (old now new piece : List ℕ) (place : ℕ) (writer after : WriterValue) → IsForm form → size ≤ length old → length (text_of form (last_of size old)) ≡ length old → IsWriting form size old now place writer
    → piece ≡ take count (drop place now) → place + count ≤ length old → after.form ≡ writer.form → length new ≡ length now → drop after.at new ≡ drop after.at now
    → ((given : List ℕ) → HasWrittenText writer given now → HasWrittenText after (given ++ piece) new) → IsWriting form size old new (place + count) after
writing_goes_on form size count old now new piece place writer after good fits whole w is to kept same behind put =
    let start : ℕ = length old - size in
    let from = w.from in
    let written : HasWrittenText after (take (place + count - start) (last_of size old)) new = subst (λ (xs : List ℕ). HasWrittenText after xs new) (next_octets size count old now piece place from w.behind is) (put (take (place - start) (last_of size old)) w.written) in
    let left = length-drop start old in
    let most : after.at ≤ place + count =
    (let l = ends_before form (last_of size old) new (place + count - start) after good (kept ∙ w.form_is) (omega (arith, left, fits, to, from)) written in omega (arith, l, left, whole, fits, to, from)) in
    record {
      long = same ∙ w.long;
      from = omega (arith, from);
      to = to;
      form_is = kept ∙ w.form_is;
      behind = agree_behind after.at (place + count) new now most behind ∙ agree_behind place (place + count) now old (omega arith) w.behind;
      written = written;
    }

pub writing_ends : (form : LineForm) (size : ℕ) (old now new : List ℕ) (place : ℕ) (writer : WriterValue) → IsForm form → size ≤ length old → length (text_of form (last_of size old)) ≡ length old → IsWriting form size old now place writer → length old ≤ place → length new ≡ length now
    → ((given : List ℕ) → HasWrittenText writer given now → take (length (text_of writer.form given)) new ≡ text_of writer.form given) → new ≡ text_of form (last_of size old)
writing_ends form size old now new place writer good fits whole w end same put =
    let start : ℕ = length old - size in
    let L : List ℕ = last_of size old in
    let to = w.to in
    let left = length-drop start old in
    let all : take (place - start) L ≡ L = take_all (place - start) L (omega (arith, left, to, end, fits)) in
    let text : take (length (text_of form L)) new ≡ text_of form L =
    subst (λ (f : LineForm). take (length (text_of f L)) new ≡ text_of f L) w.form_is (put L (subst (λ (xs : List ℕ). HasWrittenText writer xs now) all w.written)) in
    let long = w.long in
    sym (take_all (length (text_of form L)) new (omega (arith, whole, same, long))) ∙ text

pub end_has_room : (form : LineForm) (size : ℕ) (old now : List ℕ) (place : ℕ) (writer : WriterValue) → IsForm form → size ≤ length old → length (text_of form (last_of size old)) ≡ length old → IsWriting form size old now place writer → length old ≤ place
    → (given : List ℕ) × HasWrittenText writer given now × (length (text_of writer.form given) ≤ length now)
end_has_room form size old now place writer good fits whole w end =
    let start : ℕ = length old - size in
    let L : List ℕ = last_of size old in
    let to = w.to in
    let left = length-drop start old in
    let all : take (place - start) L ≡ L = take_all (place - start) L (omega (arith, left, to, end, fits)) in
    let same = ap (λ (f : LineForm). length (text_of f L)) w.form_is in
    let long = w.long in
    (L, subst (λ (xs : List ℕ). HasWrittenText writer xs now) all w.written, omega (arith, same, whole, long))

-- ---- a range in its whole

-- what a range has once it was written over
pub range_written : (whole new : List ℕ) (start count n : ℕ) → start ≤ length whole → n ≡ count → length new ≡ count → take count (drop start (take start whole ++ (new ++ drop n (drop start whole)))) ≡ new
range_written whole new start count n within is long =
    let front = length-take-le start whole within in
    let rest : List ℕ = new ++ drop n (drop start whole) in
    ap (λ (k : ℕ). take count (drop k (take start whole ++ rest))) (sym front) ∙ ap (take count) (drop-append_seam (take start whole) rest)
    ∙ ap (λ (k : ℕ). take k rest) (sym long) ∙ take-append_seam new (drop n (drop start whole))

pub range_passed : (whole new : List ℕ) (start count n : ℕ) → start ≤ length whole → n ≡ count → length new ≡ count → drop (start + count) (take start whole ++ (new ++ drop n (drop start whole))) ≡ drop (start + count) whole
range_passed whole new start count n within is long =
    let front = length-take-le start whole within in
    let rest : List ℕ = new ++ drop n (drop start whole) in
    ap (λ (k : ℕ). drop (k + count) (take start whole ++ rest)) (sym front) ∙ drop-append-add (take start whole) rest count
    ∙ ap (λ (k : ℕ). drop k rest) (sym long) ∙ drop-append_seam new (drop n (drop start whole)) ∙ ap (λ (k : ℕ). drop k (drop start whole)) is ∙ drop-drop count start whole

-- the octets at the end of a range
pub range_last : (whole : List ℕ) (start count size n : ℕ) → start + count ≤ length whole → size ≤ count → n ≡ count → last_of size (take n (drop start whole)) ≡ take size (drop (start + count - size) whole)
range_last whole start count size n within fits is =
    let left = length-drop start whole in
    let long : length (take n (drop start whole)) ≡ count = length-take-le n (drop start whole) (omega (arith, left, within, is)) ∙ is in
    let parts : n ≡ count - size + size = omega (arith, is, fits) in
    ap (λ (k : ℕ). drop (k - size) (take n (drop start whole))) long ∙ ap (λ (k : ℕ). drop (count - size) (take k (drop start whole))) parts ∙ drop-take (count - size) size (drop start whole)
    ∙ ap (take size) (drop-drop (count - size) start whole ∙ ap (λ (k : ℕ). drop k whole) (let e : start + (count - size) ≡ start + count - size = omega (arith, fits) in e))

pub part_is : (kept : Option LineForm) (form : LineForm) (octets : List ℕ) → kept ≡ Some form → part_text kept octets ≡ text_of form octets
part_is kept form octets is = ap (λ (f : Option LineForm). part_text f octets) is

-- ---- each instance

-- the octets of each that is kept
slots_in : (refs : List ExtRef) (rows : List InstRow) (ref : ExtRef) (row : InstRow) (whole : List ℕ) → row.size ≤ ref.count → ref.start + ref.count ≤ length whole
    → octets_in (row ∷ rows) (kept_in (ref ∷ refs) (row ∷ rows) whole) ≡ take row.size (drop (ref.start + ref.count - row.size) whole) ∷ octets_in rows (kept_in refs rows whole)
slots_in refs rows ref row whole fits within =
    let slot : List ℕ = take row.size (drop (ref.start + ref.count - row.size) whole) in
    let rest : List ℕ = kept_in refs rows whole in
    let long : length slot ≡ row.size = length-take-le row.size (drop (ref.start + ref.count - row.size) whole) (let d = length-drop (ref.start + ref.count - row.size) whole in omega (arith, d, fits, within)) in
    ap (λ (n : ℕ). take n (slot ++ rest) ∷ octets_in rows (drop n (slot ++ rest))) (sym long)
    ∙ ap (λ (xs : List ℕ). xs ∷ octets_in rows (drop (length slot) (slot ++ rest))) (take-append_seam slot rest) ∙ ap (λ (xs : List ℕ). slot ∷ octets_in rows xs) (drop-append_seam slot rest)

-- The texts of the instances before a place are written. Whatever becomes of the octets behind it, if the others are written there, all are.
pub record AreWriting (all : List ExtRef) (each : List InstRow) (old : List ℕ) (refs : List ExtRef) (rows : List InstRow) (now : List ℕ) : Type 0 where
  pub place : ℕ
  pub within : RangesWithin place (length old) refs
  pub texts : TextsFit refs rows
  pub forms : AreForms refs
  pub long : length now ≡ length old
  pub behind : drop place now ≡ drop place old
  pub on : (final : List ℕ) → length final ≡ length old → take place final ≡ take place now → RangesAreFilled place refs (octets_in rows (kept_in refs rows old)) (drop place final)
      → outside_from place refs (drop place final) ≡ outside_from place refs (drop place old) → RangesAreFilled 0 all (octets_in each (kept_in all each old)) final × (outside all final ≡ outside all old)

pub texts_begin : (refs : List ExtRef) (rows : List InstRow) (stored : ℕ) (old : List ℕ) → FitInto (length old) stored refs rows → AreForms refs → AreWriting refs rows old refs rows old
texts_begin refs rows stored old f forms = record {
  place = 0;
  within = all_within stored refs rows old f;
  texts = f.texts;
  forms = forms;
  long = refl;
  behind = refl;
  on = λ final long same k o. (k, o);
}

pub texts_go_on : (all : List ExtRef) (each : List InstRow) (old : List ℕ) (refs others : List ExtRef) (named rows : List InstRow) (ref : ExtRef) (row : InstRow) (now new : List ℕ) → AreWriting all each old refs named now → refs ≡ ref ∷ others → named ≡ row ∷ rows
    → take ref.start new ≡ take ref.start now → take ref.count (drop ref.start new) ≡ part_text ref.form (take row.size (drop (ref.start + ref.count - row.size) now)) → drop (ref.start + ref.count) new ≡ drop (ref.start + ref.count) now → length new ≡ length now
    → AreWriting all each old others rows new
texts_go_on all each old refs others named rows ref row now new w first second front text behind size =
    let r = next_range old w.place refs others named rows ref row first second w.within w.texts w.forms in
    let from = r.from in
    let to = r.to in
    let fits = r.size in
    let end : ℕ = ref.start + ref.count in
    let at : ℕ = end - row.size in
    let slot : take row.size (drop at now) ≡ take row.size (drop at old) = ap (take row.size) (agree_behind w.place at now old (omega (arith, from, fits)) w.behind) in
    record {
      place = end;
      within = r.within;
      texts = r.texts;
      forms = r.forms;
      long = size ∙ w.long;
      behind = behind ∙ agree_behind w.place end now old (omega (arith, from)) w.behind;
      on = λ final same_long same rest_filled outside_rest.
          let past : drop (end - w.place) (drop w.place final) ≡ drop end final = drop-drop (end - w.place) w.place final ∙ ap (λ (n : ℕ). drop n final) (let e : w.place + (end - w.place) ≡ end = omega (arith, from) in e) in
          let begins : drop (ref.start - w.place) (drop w.place final) ≡ drop ref.start final = drop-drop (ref.start - w.place) w.place final ∙ ap (λ (n : ℕ). drop n final) (let e : w.place + (ref.start - w.place) ≡ ref.start = omega (arith, from) in e) in
          let there : take ref.count (drop (ref.start - w.place) (drop w.place final)) ≡ part_text ref.form (take row.size (drop at old)) =
          ap (take ref.count) begins ∙ agree_part ref.start ref.count end final new (omega arith) same ∙ text ∙ ap (part_text ref.form) slot in
          let left = length-drop w.place final in
          let filled_all : RangesAreFilled w.place (ref ∷ others) (take row.size (drop at old) ∷ octets_in rows (kept_in others rows old)) (drop w.place final) =
          (from, omega (arith, left, same_long, to, from), there, subst (RangesAreFilled end others (octets_in rows (kept_in others rows old))) (sym past) rest_filled) in
          let named_all : RangesAreFilled w.place (ref ∷ others) (octets_in (row ∷ rows) (kept_in (ref ∷ others) (row ∷ rows) old)) (drop w.place final) =
          subst (λ (os : List (List ℕ)). RangesAreFilled w.place (ref ∷ others) os (drop w.place final)) (sym (slots_in others rows ref row old fits to)) filled_all in
          let outside_all = outside_on w.place ref others old now new final from w.behind front same outside_rest in
          w.on final same_long (agree_less w.place end final new (omega (arith, from)) same ∙ agree_less w.place ref.start new now from front)
          (subst (λ (ws : List InstRow). RangesAreFilled w.place refs (octets_in ws (kept_in refs ws old)) (drop w.place final)) (sym second)
          (subst (λ (rs : List ExtRef). RangesAreFilled w.place rs (octets_in (row ∷ rows) (kept_in rs (row ∷ rows) old)) (drop w.place final)) (sym first) named_all))
          (subst (λ (rs : List ExtRef). outside_from w.place rs (drop w.place final) ≡ outside_from w.place rs (drop w.place old)) (sym first) outside_all);
    }

pub texts_end : (all : List ExtRef) (each : List InstRow) (old : List ℕ) (refs : List ExtRef) (rows : List InstRow) (now : List ℕ) → AreWriting all each old refs rows now → refs ≡ [] → IsWhole now (outside all old) all (octets_in each (kept_in all each old))
texts_end all each old refs rows now w none =
    let no_rows = no_row rows (subst (λ (rs : List ExtRef). TextsFit rs rows) none w.texts) in
    let done = w.on now w.long refl
    (subst (λ (rs : List ExtRef). RangesAreFilled w.place rs (octets_in rows (kept_in rs rows old)) (drop w.place now)) (sym none)
    (subst (λ (ws : List InstRow). RangesAreFilled w.place [] (octets_in ws (kept_in [] ws old)) (drop w.place now)) (sym no_rows) tt))
    (subst (λ (rs : List ExtRef). outside_from w.place rs (drop w.place now) ≡ outside_from w.place rs (drop w.place old)) (sym none) w.behind) in
    filled all (octets_in each (kept_in all each old)) now (outside all old) done.1 done.0
  where
    no_row : (ws : List InstRow) → TextsFit [] ws → ws ≡ []
    no_row [] h = refl
    no_row (w ∷ ws) h = absurd h

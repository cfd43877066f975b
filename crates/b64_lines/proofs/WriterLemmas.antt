-- Text in lines, written piece by piece into a slice.
use Rattle.std.proofs.Common.{refl, ◌≡◌, ◌<◌, ◌≤◌, ◌+◌, ◌-◌, ◌*◌, ◌/◌, ℕ, List, [], ◌++◌, length, min, take, drop, sym, ◌∙◌, ap, subst, arith, append_assoc, append-nil, length-append}
use Rattle.std.proofs.Math.Seq.{drop-append-add}
use Rattle.std.proofs.lemmas.List.{drop-drop, drop_all, length-drop, length-take-le, take_all}
use Rattle.mdbox_base.specs.declared.metadata.LineForm.{LineForm}
use Rattle.model_base64.specs.Base64Text.{line_break, padded, text_of, IsForm}
use Rattle.model_base64.proofs.Base64Lemmas.{length-padded, line_last}
use Rattle.b64_lines.specs.Writer.{HasWrittenText, WriterValue}
use Rattle.b64_lines.proofs.WritingLemmas.{full_line}

-- ---- lines

-- Of these octets some lines are written behind what stood there, and these are left.
pub record ArePut (form : LineForm) (octets : List ℕ) (start : ℕ) (old rest : List ℕ) (at : ℕ) (now : List ℕ) : Type 0 where
  pub text : (more : List ℕ) → take at now ++ text_of form (rest ++ more) ≡ take start old ++ text_of form (octets ++ more)
  pub room : at + length (text_of form rest) ≤ length now
  pub size : length now ≡ length old
  pub order : start ≤ at
  pub behind : drop at now ≡ drop at old

-- what stands behind one place stays, and so what stands behind a later one
pub behind_later : (at next : ℕ) (old now : List ℕ) → at ≤ next → drop at now ≡ drop at old → drop next now ≡ drop next old
behind_later at next old now le same =
    let e : next ≡ at + (next - at) = omega (arith, le) in
    ap (λ (n : ℕ). drop n now) e ∙ sym (drop-drop (next - at) at now) ∙ ap (drop (next - at)) same ∙ drop-drop (next - at) at old ∙ ap (λ (n : ℕ). drop n old) (sym e)

-- what is behind the octets that were written from a place on
pub behind_encoded : (at size count : ℕ) (old new : List ℕ) → at ≤ length old → length new ≡ length old - at → count ≡ length old - at → drop size new ≡ drop size (take count (drop at old)) → drop (at + size) (take at old ++ (new ++ drop count (drop at old))) ≡ drop (at + size) old
behind_encoded at size count old new within long count_is same =
    let left = length-drop at old in
    let front : length (take at old) ≡ at = length-take-le at old within in
    let none : drop count (drop at old) ≡ [] = drop_all count (drop at old) (omega (arith, left, count_is)) in
    let all : take count (drop at old) ≡ drop at old = take_all count (drop at old) (omega (arith, left, count_is)) in
    ap (λ (xs : List ℕ). drop (at + size) (take at old ++ (new ++ xs))) none ∙ ap (λ (xs : List ℕ). drop (at + size) (take at old ++ xs)) (append-nil new)
    ∙ ap (λ (n : ℕ). drop (n + size) (take at old ++ new)) (sym front) ∙ drop-append-add (take at old) new size
    ∙ same ∙ ap (drop size) all ∙ drop-drop size at old

pub put_start : (form : LineForm) (octets : List ℕ) (start : ℕ) (old : List ℕ) → start + length (text_of form octets) ≤ length old → ArePut form octets start old octets start old
put_start form octets start old room = record { text = λ more. refl; room = room; size = refl; order = omega arith; behind = refl }

-- a full line in front of others
line_of : (form : LineForm) (line behind more : List ℕ) → IsForm form → length line ≡ form.length / 4 * 3 → 0 < length behind → text_of form ((line ++ behind) ++ more) ≡ (padded line ++ line_break form.crlf) ++ text_of form (behind ++ more)
line_of form line behind more good size some =
    full_line form ((line ++ behind) ++ more) line (behind ++ more) good size (omega (arith, some, length-append behind more)) (append_assoc line behind more) ∙ sym (append_assoc (padded line) (line_break form.crlf) (text_of form (behind ++ more)))

line_alone : (form : LineForm) (line behind : List ℕ) → IsForm form → length line ≡ form.length / 4 * 3 → 0 < length behind → length (text_of form (line ++ behind)) ≡ length (padded line ++ line_break form.crlf) + length (text_of form behind)
line_alone form line behind good size some =
    ap length (full_line form (line ++ behind) line behind good size some refl ∙ sym (append_assoc (padded line) (line_break form.crlf) (text_of form behind))) ∙ length-append (padded line ++ line_break form.crlf) (text_of form behind)

-- there is room for the next line
pub line_room : (form : LineForm) (octets : List ℕ) (start : ℕ) (old rest : List ℕ) (at : ℕ) (now line behind : List ℕ) → IsForm form → ArePut form octets start old rest at now → rest ≡ line ++ behind → length line ≡ form.length / 4 * 3 → 0 < length behind
    → at + length (padded line ++ line_break form.crlf) ≤ length now
line_room form octets start old rest at now line behind good p parts size some =
    let room = p.room in
    let long : length (text_of form rest) ≡ length (padded line ++ line_break form.crlf) + length (text_of form behind) = ap (λ (xs : List ℕ). length (text_of form xs)) parts ∙ line_alone form line behind good size some in
    omega (arith, room, long)

pub put_next : (form : LineForm) (octets : List ℕ) (start : ℕ) (old rest : List ℕ) (at : ℕ) (now line behind : List ℕ) (next : ℕ) (new : List ℕ) → IsForm form → ArePut form octets start old rest at now → rest ≡ line ++ behind → length line ≡ form.length / 4 * 3 → 0 < length behind
    → take next new ≡ take at now ++ (padded line ++ line_break form.crlf) → drop next new ≡ drop next now → next ≡ at + length (padded line ++ line_break form.crlf) → length new ≡ length now → ArePut form octets start old behind next new
put_next form octets start old rest at now line behind next new good p parts size some put stays ends same =
    let room = p.room in
    let long : length (text_of form rest) ≡ length (padded line ++ line_break form.crlf) + length (text_of form behind) = ap (λ (xs : List ℕ). length (text_of form xs)) parts ∙ line_alone form line behind good size some in
    record {
      text = λ more.
          ap (λ (xs : List ℕ). xs ++ text_of form (behind ++ more)) put ∙ append_assoc (take at now) (padded line ++ line_break form.crlf) (text_of form (behind ++ more))
          ∙ ap (λ (xs : List ℕ). take at now ++ xs) (sym (line_of form line behind more good size some)) ∙ ap (λ (xs : List ℕ). take at now ++ text_of form (xs ++ more)) (sym parts) ∙ p.text more;
      room = omega (arith, room, long, ends, same);
      size = same ∙ p.size;
      order = let order = p.order in omega (arith, order, ends);
      behind = stays ∙ behind_later at next old now (omega (arith, ends)) p.behind;
    }

-- ---- a piece

abbrev pub value_of : LineForm → ℕ → List ℕ → WriterValue
value_of form at carry = record { form = form; at = at; carry = carry }

-- octets are kept
pub kept_more : (form : LineForm) (at : ℕ) (carry given front into kept : List ℕ) → HasWrittenText (value_of form at carry) given into → kept ≡ carry ++ front → HasWrittenText (value_of form at kept) (given ++ front) into
kept_more form at carry given front into kept h is = record {
  within = h.within;
  text = λ more.
      ap (λ (xs : List ℕ). take at into ++ text_of form (xs ++ more)) is ∙ ap (λ (xs : List ℕ). take at into ++ text_of form xs) (append_assoc carry front more)
      ∙ h.text (front ++ more) ∙ ap (text_of form) (sym (append_assoc given front more));
}

-- how much room what is kept takes, with octets behind it
pub kept_room : (form : LineForm) (at : ℕ) (kept given rest into all : List ℕ) → IsForm form → HasWrittenText (value_of form at kept) given into → length kept ≡ form.length / 4 * 3 → 0 < length rest → all ≡ given ++ rest → length (text_of form all) ≤ length into
    → (at + length (padded kept ++ line_break form.crlf) ≤ length into) × (at + length (padded kept ++ line_break form.crlf) + length (text_of form rest) ≤ length into)
kept_room form at kept given rest into all good h size some is room =
    let within = h.within in
    let whole : length (take at into ++ text_of form (kept ++ rest)) ≡ length (text_of form all) = ap length (h.text rest) ∙ ap (λ (xs : List ℕ). length (text_of form xs)) (sym is) in
    let one = length-append (take at into) (text_of form (kept ++ rest)) in
    let two = length-take-le at into within in
    let three = line_alone form kept rest good size some in
    (omega (arith, whole, one, two, three, room), omega (arith, whole, one, two, three, room))

-- What is kept is a full line, and written; then lines of the others are, and the last is kept.
pub piece_written : (form : LineForm) (at : ℕ) (kept given rest into : List ℕ) (mid : ℕ) (then last : List ℕ) (end : ℕ) (new carry all : List ℕ) → IsForm form → HasWrittenText (value_of form at kept) given into → length kept ≡ form.length / 4 * 3 → 0 < length rest
    → take mid then ≡ take at into ++ (padded kept ++ line_break form.crlf)
    → ((more : List ℕ) → take end new ++ text_of form (last ++ more) ≡ take mid then ++ text_of form (rest ++ more)) → end ≤ length new → carry ≡ last → all ≡ given ++ rest → HasWrittenText (value_of form end carry) all new
piece_written form at kept given rest into mid then last end new carry all good h size some line put within is parts = record {
  within = within;
  text = λ more.
      ap (λ (xs : List ℕ). take end new ++ text_of form (xs ++ more)) is ∙ put more ∙ ap (λ (xs : List ℕ). xs ++ text_of form (rest ++ more)) line
      ∙ append_assoc (take at into) (padded kept ++ line_break form.crlf) (text_of form (rest ++ more)) ∙ ap (λ (xs : List ℕ). take at into ++ xs) (sym (line_of form kept rest more good size some))
      ∙ ap (λ (xs : List ℕ). take at into ++ text_of form xs) (append_assoc kept rest more) ∙ h.text (rest ++ more)
      ∙ ap (text_of form) (sym (append_assoc given rest more) ∙ ap (λ (xs : List ℕ). xs ++ more) (sym parts));
}

-- ---- the end

-- the last line is what is kept
last_line : (form : LineForm) (kept : List ℕ) → IsForm form → length kept ≤ form.length / 4 * 3 → text_of form kept ≡ padded kept
last_line form kept good short = line_last form.length (line_break form.crlf) form.length (padded kept) (omega (arith, length-padded kept, short, good.fours))

end_text : (form : LineForm) (at : ℕ) (kept given into : List ℕ) → IsForm form → HasWrittenText (value_of form at kept) given into → length kept ≤ form.length / 4 * 3 → take at into ++ padded kept ≡ text_of form given
end_text form at kept given into good h short =
    ap (λ (xs : List ℕ). take at into ++ xs) (sym (last_line form kept good short)) ∙ ap (λ (xs : List ℕ). take at into ++ text_of form xs) (sym (append-nil kept)) ∙ h.text [] ∙ ap (text_of form) (append-nil given)

end_size : (form : LineForm) (at : ℕ) (kept given into : List ℕ) → IsForm form → HasWrittenText (value_of form at kept) given into → length kept ≤ form.length / 4 * 3 → at + length (padded kept) ≡ length (text_of form given)
end_size form at kept given into good h short =
    let all = ap length (end_text form at kept given into good h short) in
    let one = length-append (take at into) (padded kept) in
    let two = length-take-le at into h.within in
    omega (arith, all, one, two)

pub end_room : (v : WriterValue) (form : LineForm) (at : ℕ) (kept given into : List ℕ) → v ≡ value_of form at kept → IsForm form → HasWrittenText v given into → length kept ≤ form.length / 4 * 3 → length (text_of v.form given) ≤ length into → at + length (padded kept) ≤ length into
end_room v form at kept given into is good h short room =
    let same : length (text_of v.form given) ≡ length (text_of form given) = ap (λ (w : WriterValue). length (text_of w.form given)) is in
    let size = end_size form at kept given into good (subst (λ (w : WriterValue). HasWrittenText w given into) is h) short in
    omega (arith, same, size, room)

pub end_written : (v : WriterValue) (form : LineForm) (at : ℕ) (kept given into : List ℕ) (end : ℕ) (new : List ℕ) → v ≡ value_of form at kept → IsForm form → HasWrittenText v given into → length kept ≤ form.length / 4 * 3 → take end new ≡ take at into ++ padded kept → end ≡ at + length (padded kept)
    → take (length (text_of v.form given)) new ≡ text_of v.form given
end_written v form at kept given into end new is good h short put ends =
    let w = subst (λ (w : WriterValue). HasWrittenText w given into) is h in
    let size : length (text_of form given) ≡ end = sym (ends ∙ end_size form at kept given into good w short) in
    ap (λ (w : WriterValue). take (length (text_of w.form given)) new) is ∙ ap (λ (k : ℕ). take k new) size ∙ put ∙ end_text form at kept given into good w short ∙ ap (λ (w : WriterValue). text_of w.form given) (sym is)

-- ---- a piece, by the value that callers see

pub as_seen : (v : WriterValue) (form : LineForm) (at : ℕ) (carry given into : List ℕ) → v ≡ value_of form at carry → HasWrittenText v given into → HasWrittenText (value_of form at carry) given into
as_seen v form at carry given into is h = subst (λ (w : WriterValue). HasWrittenText w given into) is h

pub seen_room : (v : WriterValue) (form : LineForm) (at : ℕ) (carry : List ℕ) (all into : List ℕ) → v ≡ value_of form at carry → length (text_of v.form all) ≤ length into → length (text_of form all) ≤ length into
seen_room v form at carry all into is room = let same : length (text_of v.form all) ≡ length (text_of form all) = ap (λ (w : WriterValue). length (text_of w.form all)) is in omega (arith, same, room)

-- what a line has that others follow
pub is_full : (kept count most size long rest : ℕ) → count ≡ min long (size - kept) → kept ≤ size → rest + count ≡ long → 0 < rest → kept + count ≡ size
is_full kept count most size long rest is low sum some = omega (arith, is, low, sum, some)

-- what is kept is a full line where others follow
pub full_kept : (size kept count long : ℕ) (line front rest filled : List ℕ) → length line ≡ 747 → size ≤ 747 → kept ≤ size → count ≡ min long (size - kept) → length front ≡ count → length rest + count ≡ long → 0 < length rest → filled ≡ take kept line ++ front → length filled ≡ size
full_kept size kept count long line front rest filled full most low is front_is sum some put =
    let one = length-take-le kept line (omega (arith, full, most, low)) in
    let all = ap length put in
    let two = length-append (take kept line) front in
    let fills = is_full kept count 0 size long (length rest) is low sum some in
    omega (arith, all, two, one, front_is, fills)

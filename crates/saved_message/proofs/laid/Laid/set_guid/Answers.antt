use Rattle.std.proofs.Common.{arith, ap, length, length-append, subst, sym, ◌++◌, ◌∙◌, ℕ, List}
use Rattle.std.proofs.lemmas.List.{with_items_is}
use Rattle.hex.specs.Hex.{encode_lower}
use Rattle.saved_message.specs.Laid.{IsLaid, LaidValue, laid_of}
use Rattle.saved_message.proofs.LaidLemmas.{guid_ends, guid_laid, with_region}
use Rattle.saved_message.proofs.TextsLemmas.{put_behind}
use Rattle.saved_message.proofs.laid.Laid.set_guid.Goals as goal

pub put_digits-requires : goal.put_digits-requires
put_digits-requires c =
    let s = c.requires.laid in
    let e = guid_ends s.0 s.1 s.2 s.3 s.4 _ s.5 in
    let at = ap (λ (v : LaidValue). v.guid_at) c.self.view_is in
    let long = ap (λ (v : LaidValue). length v.region) c.self.view_is in
    let l = length-append (c.self.inside.texts.front.items ++ c.self.inside.texts.body) c.self.inside.texts.back.items in
    let same = ap length c.deref_mut.ensures.value in
    omega (arith, e, at, long, l, same)

pub returns-clause-set : goal.returns-clause-set
returns-clause-set c = λ name time prepared ids old is.
    let put = c.put_digits.ensures in
    let before : List ℕ = c.self.inside.texts.front.items ++ c.self.inside.texts.body in
    let v : LaidValue = laid_of before c.self.inside.texts.back.items c.self.inside.guid_at c.self.inside.refs_at c.self.inside.sizes.items in
    let was : IsLaid name time prepared ids old v = subst (λ (x : LaidValue). IsLaid name time prepared ids old x) (sym c.self.view_is) is in
    let items = with_items_is c.self.inside.texts.back c.put_digits.new.text (put.size ∙ c.deref_mut.ensures.len) in
    subst (λ (x : List ℕ). IsLaid name time prepared ids c.args.guid.0 (with_region (before ++ x) v)) (sym items)
    (guid_laid name time prepared ids old c.args.guid.0 v (before ++ c.put_digits.new.text) was put.octets
    (put_behind before c.self.inside.texts.back.items c.put_digits.new.text (encode_lower c.args.guid.0) c.self.inside.guid_at (λ front digits back stands. put.put front digits back (c.deref_mut.ensures.value ∙ stands))))

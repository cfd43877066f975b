use Rattle.map_rows.proofs.Common.{nat_le, ◌≡◌, ◌∙◌, true, ap, sym, subst, arith, rules, NamedInstance, AreNamings, all_namings, namings_of}
use Rattle.std.proofs.lemmas.Fn.{filter_same}
use Rattle.map_rows.proofs.NameLemmas.{swept_names, swept_are}
use Rattle.map_rows.proofs.names.InstanceNames.remove_each.Goals as goal

pub invariant_of-self : goal.invariant_of-self
invariant_of-self c =
    let swept = filter_same _ (λ (n : NamedInstance). nat_le 1 n.namings) _ (λ x b f' k. search rules) _ _ c.retain.ensures.filtered in
    let left : all_namings c.retain.new.self.items ≡ all_namings c.lower_records.new.named.items = ap all_namings swept ∙ swept_names (λ row. true) c.lower_records.new.named.items in
    let i = c.self.invariant in
    let total = i.1 in
    let most = i.2 in
    let space = i.3 in
    let count = c.lower_records.ensures.count in
    let len = c.lower_records.ensures.space.0 in
    let capacity = c.lower_records.ensures.space.1 in
    let bound = c.retain.ensures.bound in
    let same = c.retain.ensures.capacity in (
      subst AreNamings (sym swept) (swept_are c.lower_records.new.named.items c.lower_records.ensures.are),
      omega (arith, left, total, count),
      omega (arith, most, total, count),
      omega (arith, space, len, capacity, bound, same),
    )

pub returns-clause-names : goal.returns-clause-names
returns-clause-names c = λ p.
    let swept = filter_same _ (λ (n : NamedInstance). nat_le 1 n.namings) _ (λ x b f' k. search rules) _ _ c.retain.ensures.filtered in
    ap (namings_of p) swept ∙ swept_names p c.lower_records.new.named.items ∙ c.lower_records.ensures.names p

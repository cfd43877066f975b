use Rattle.std.proofs.Common.{Bool, List, ℕ, ◌∷◌, [], ◌++◌, ◌∙◌, ap}
use Rattle.std.specs.List.{list_any}
use Rattle.std.specs.Prelude.{if◌then◌else◌}
use Rattle.std.specs.Str.{bytes_eq}
use Rattle.store_rebuild.proofs.names.with_name.Goals as goal

pub returns-clause-names : goal.returns-clause-names
returns-clause-names c =
    c.in_ok-push.ensures.items ∙ ap (λ (n : List ℕ). c.args.names.items ++ n ∷ []) c.in_ok-name.ensures
    ∙ ap (λ (b : Bool). if b then c.args.names.items else c.args.names.items ++ c.args.name.now ∷ []) (c.if-is_among.ensures ∙ ap (λ (ns : List (List ℕ)). list_any (bytes_eq c.args.name.now) ns) c.deref.ensures.value)

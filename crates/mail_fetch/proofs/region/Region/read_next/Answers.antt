use Rattle.mail_fetch.proofs.Common.{ℕ, List, common_steps, left_after, octets_to_read, ◌≡◌, ◌<◌, ◌≤◌, ◌+◌, ◌++◌, length, take, drop, refl, sym, ◌∙◌, ap, subst, arith, RegionValue, pieces_left}
use Rattle.mail_fetch.specs.Held.{HoldsPart, IsUnknown, octets_held}
use Rattle.mail_fetch.specs.declared.held.Held.{Held}
use Rattle.mail_fetch.proofs.HeldLemmas.{held_less}
use Rattle.mail_fetch.proofs.PartLemmas.{first_size, known_next, part_next, passed, written_over_parts}
use Rattle.mail_fetch.proofs.PieceLemmas.{block_now, first_passed, left_less, octets_left, piece_few, piece_fits, next_told, piece_seen, region_passed, room_on}
use Rattle.mail_fetch.proofs.region.Region.read_next.Goals as goal

pub read_first-requires-clause-known : goal.read_first-requires-clause-known
read_first-requires-clause-known g c =
    known_next c.args.store.now.instances.known c.self.inside.parts.items c.args.self.now.left c.self.inside.next c.index-part.result.now c.index-part.ensures (ap (λ (v : RegionValue). v.left) c.self.view_is) c.requires.left c.requires.known

pub invariant_of-self : goal.invariant_of-self
invariant_of-self g c =
    let len : c.self.inside.block.len ≡ 65536 = c.self.inside.block.ok.0 ∙ c.self.invariant.3 in
    let block = c.read_first.new.block in (
      c.self.invariant.0,
      c.self.invariant.1,
      c.self.invariant.2,
      ap (λ xs. length xs) (block_now block c.self.inside.block.items c.self.inside.block.len c.in_err-count.ensures.block len) ∙ c.in_err-count.ensures.block,
    )

pub with_piece-held-requires-clause-held : goal.with_piece-held-requires-clause-held
with_piece-held-requires-clause-held g c =
    subst (λ (h : Held). (x : ℕ) × HoldsPart c.self.inside.from c.self.inside.head.items x h) (sym c.replace-held.ensures.value) (octets_left (drop c.self.inside.next c.self.inside.parts.items), c.self.invariant.1)

pub with_piece-held-requires-clause-room : goal.with_piece-held-requires-clause-room
with_piece-held-requires-clause-room g c =
    let parts = c.self.inside.parts.items in
    let left = drop c.self.inside.next parts in
    let left_is = ap (λ (v : RegionValue). v.left) c.self.view_is in
    let at = part_next parts c.self.inside.next c.index-part.result.now c.index-part.ensures (subst (λ ps. 0 < pieces_left ps) (sym left_is) c.requires.left) in
    let count = c.in_ok-count.count in
    let piece : List ℕ = take count c.deref.result.now in
    let few : length piece ≤ first_size left = piece_few left (drop (c.self.inside.next + 1) parts) c.index-part.result.now c.deref.result.now count at c.in_ok-count.ensures.count.0 in
    subst (λ (h : Held). length (c.self.inside.head.items ++ octets_held c.self.inside.from.instances h) + length piece ≤ octets_to_read c.self.inside.from) (sym c.replace-held.ensures.value)
    (piece_fits c.self.inside.from c.self.inside.total c.self.inside.head (c.self.inside.head.items ++ octets_held c.self.inside.from.instances c.self.inside.held) left piece c.self.invariant.0 few)

pub settled_if-requires : goal.settled_if-requires
settled_if-requires g c =
    let parts = c.self.inside.parts.items in
    let left = drop c.self.inside.next parts in
    let left_is = ap (λ (v : RegionValue). v.left) c.self.view_is in
    let at = part_next parts c.self.inside.next c.index-part.result.now c.index-part.ensures (subst (λ ps. 0 < pieces_left ps) (sym left_is) c.requires.left) in
    let count = c.in_ok-count.count in
    let piece : List ℕ = take count c.deref.result.now in
    let few : length piece ≤ first_size left = piece_few left (drop (c.self.inside.next + 1) parts) c.index-part.result.now c.deref.result.now count at c.in_ok-count.ensures.count.0 in
    let sizes = left_less left (left_after left) piece refl few in
    let was : HoldsPart c.self.inside.from c.self.inside.head.items (octets_left (left_after left) + length piece) c.replace-held.result =
    subst (HoldsPart c.self.inside.from c.self.inside.head.items (octets_left (left_after left) + length piece)) (sym c.replace-held.ensures.value) (held_less c.self.inside.from c.self.inside.head.items (octets_left (left_after left) + length piece) (octets_left left) c.self.inside.held sizes c.self.invariant.1) in
    record {
      held = subst (λ (xs : List ℕ). (x : ℕ) × HoldsPart c.self.inside.from xs x c.with_piece-held.result) (sym c.deref-2.ensures.value) (octets_left (left_after left), c.with_piece-held.ensures.held (octets_left (left_after left)) was);
    }

pub invariant_of-self-2 : goal.invariant_of-self-2
invariant_of-self-2 g c =
    let parts = c.self.inside.parts.items in
    let left = drop c.self.inside.next parts in
    let left_is = ap (λ (v : RegionValue). v.left) c.self.view_is in
    let at = part_next parts c.self.inside.next c.index-part.result.now c.index-part.ensures (subst (λ ps. 0 < pieces_left ps) (sym left_is) c.requires.left) in
    let count = c.in_ok-count.count in
    let piece : List ℕ = take count c.deref.result.now in
    let few : length piece ≤ first_size left = piece_few left (drop (c.self.inside.next + 1) parts) c.index-part.result.now c.deref.result.now count at c.in_ok-count.ensures.count.0 in
    let from = c.self.inside.from in
    let rows = c.self.inside.from.instances in
    let was = c.replace-held.ensures.value in
    let now = written_over_parts c.pass_piece-self-inside.new.parts c.deref_mut-2.result.now parts c.self.inside.parts.len c.self.inside.parts.ok.0 c.deref_mut-2.ensures.value c.pass_piece-self-inside.auto.parts in
    let after = drop c.pass_piece-self-inside.result (take c.self.inside.parts.len (c.pass_piece-self-inside.new.parts ++ drop (length c.pass_piece-self-inside.new.parts) parts)) in
    let goes : after ≡ left_after left = passed parts c.pass_piece-self-inside.new.parts c.deref_mut-2.result.now left c.self.inside.parts.len c.self.inside.next c.pass_piece-self-inside.result c.self.inside.parts.ok.0 c.deref_mut-2.ensures.value c.pass_piece-self-inside.auto.parts c.pass_piece-self-inside.ensures.left refl in
    let len : c.self.inside.block.len ≡ 65536 = c.self.inside.block.ok.0 ∙ c.self.invariant.3 in
    let block = c.read_first.new.block in
    let sizes = left_less left after piece goes few in
    let read : c.with_piece-held.new.head.items ++ octets_held rows c.settled_if.result ≡ (c.self.inside.head.items ++ octets_held rows c.self.inside.held) ++ piece =
    ap (λ (xs : List ℕ). c.with_piece-held.new.head.items ++ xs) c.settled_if.ensures.octets ∙ c.with_piece-held.ensures.read ∙ ap (λ (h : Held). (c.self.inside.head.items ++ octets_held rows h) ++ piece) was in
    let has_left = room_on from c.self.inside.total c.self.inside.head c.with_piece-held.new.head (c.self.inside.head.items ++ octets_held rows c.self.inside.held) (c.with_piece-held.new.head.items ++ octets_held rows c.settled_if.result) left after piece c.self.invariant.0
    c.with_piece-held.ensures.head_room read few goes in
    let held_now : HoldsPart from c.with_piece-held.new.head.items (octets_left after) c.with_piece-held.result =
    c.with_piece-held.ensures.held (octets_left after) (subst (HoldsPart from c.self.inside.head.items (octets_left after + length piece)) (sym was) (held_less from c.self.inside.head.items (octets_left after + length piece) (octets_left left) c.self.inside.held sizes c.self.invariant.1)) in
    let behind : drop (c.self.inside.next + 1) c.pass_piece-self-inside.new.parts ≡ drop (c.self.inside.next + 1) parts = c.pass_piece-self-inside.ensures.behind ∙ ap (drop (c.self.inside.next + 1)) c.deref_mut-2.ensures.value in
    let known : (unknown : IsUnknown c.with_piece-held.result) → IsUnknown c.self.inside.held = λ unknown. subst IsUnknown was (c.with_piece-held.ensures.known unknown) in
    let there : c.deref-2.result.now ≡ c.with_piece-held.new.head.items = c.deref-2.ensures.value in (
      has_left,
      subst (λ (xs : List ℕ). HoldsPart from xs (octets_left after) c.settled_if.result) there (c.settled_if.ensures.held (octets_left after) (subst (λ (xs : List ℕ). HoldsPart from xs (octets_left after) c.with_piece-held.result) (sym there) held_now)
          (λ is_read unknown some.
          let i = c.self.invariant.2 (known unknown) some in
          let past = first_passed parts c.pass_piece-self-inside.new.parts _ c.self.inside.next c.pass_piece-self-inside.result i.0 now c.pass_piece-self-inside.ensures.next behind in
          let most = region_passed from c.self.inside.total c.with_piece-held.new.head (c.with_piece-held.new.head.items ++ octets_held rows c.settled_if.result) after parts has_left (past.0 (grind (arith, common_steps, is_read))) i.1 in
          let same : length (c.deref-2.result.now ++ octets_held rows c.with_piece-held.result) ≡ length (c.with_piece-held.new.head.items ++ octets_held rows c.settled_if.result) =
          ap (λ (xs : List ℕ). length (xs ++ octets_held rows c.with_piece-held.result)) there ∙ ap (λ (xs : List ℕ). length (c.with_piece-held.new.head.items ++ xs)) (sym c.settled_if.ensures.octets) in
          let first = most.0 in
          (omega (arith, same, first), most.1))),
      λ unknown some.
          let k = c.settled_if.ensures.known unknown some in
          let i = c.self.invariant.2 (known k.1) some in
          let past = first_passed parts c.pass_piece-self-inside.new.parts _ c.self.inside.next c.pass_piece-self-inside.result i.0 now c.pass_piece-self-inside.ensures.next behind in
          let unread = k.0 in
          let none : c.pass_piece-self-inside.result ≡ 0 = grind (arith, common_steps, unread) in
          (none, ap octets_left (past.1 none) ∙ i.1),
      ap (λ xs. length xs) (block_now block c.self.inside.block.items c.self.inside.block.len c.in_ok-count.ensures.block len) ∙ c.in_ok-count.ensures.block,
    )

pub returns-clause-piece : goal.returns-clause-piece
returns-clause-piece g c =
    let parts = c.self.inside.parts.items in
    let left = drop c.self.inside.next parts in
    let left_is = ap (λ (v : RegionValue). v.left) c.self.view_is in
    let at = part_next parts c.self.inside.next c.index-part.result.now c.index-part.ensures (subst (λ ps. 0 < pieces_left ps) (sym left_is) c.requires.left) in
    let count = c.in_ok-count.count in
    let piece : List ℕ = take count c.deref.result.now in
    let few : length piece ≤ first_size left = piece_few left (drop (c.self.inside.next + 1) parts) c.index-part.result.now c.deref.result.now count at c.in_ok-count.ensures.count.0 in
    let from = c.self.inside.from in
    let rows = c.self.inside.from.instances in
    let was = c.replace-held.ensures.value in
    let now = written_over_parts c.pass_piece-self-inside.new.parts c.deref_mut-2.result.now parts c.self.inside.parts.len c.self.inside.parts.ok.0 c.deref_mut-2.ensures.value c.pass_piece-self-inside.auto.parts in
    let after = drop c.pass_piece-self-inside.result (take c.self.inside.parts.len (c.pass_piece-self-inside.new.parts ++ drop (length c.pass_piece-self-inside.new.parts) parts)) in
    let goes : after ≡ left_after left = passed parts c.pass_piece-self-inside.new.parts c.deref_mut-2.result.now left c.self.inside.parts.len c.self.inside.next c.pass_piece-self-inside.result c.self.inside.parts.ok.0 c.deref_mut-2.ensures.value c.pass_piece-self-inside.auto.parts c.pass_piece-self-inside.ensures.left refl in
    let len : c.self.inside.block.len ≡ 65536 = c.self.inside.block.ok.0 ∙ c.self.invariant.3 in
    let block = c.read_first.new.block in
    let there : c.deref.result.now ≡ block = c.deref.ensures.value ∙ block_now block c.self.inside.block.items c.self.inside.block.len c.in_ok-count.ensures.block len in
    let read : c.with_piece-held.new.head.items ++ octets_held rows c.settled_if.result ≡ (c.self.inside.head.items ++ octets_held rows c.self.inside.held) ++ take count block =
    ap (λ (xs : List ℕ). c.with_piece-held.new.head.items ++ xs) c.settled_if.ensures.octets ∙ c.with_piece-held.ensures.read ∙ ap (λ (h : Held). (c.self.inside.head.items ++ octets_held rows h) ++ piece) was
    ∙ ap (λ (xs : List ℕ). (c.self.inside.head.items ++ octets_held rows c.self.inside.held) ++ take count xs) there in
    piece_seen _ (record { from = from; octets = c.self.inside.head.items ++ octets_held rows c.self.inside.held; left = left }) c.args.self.now (c.with_piece-held.new.head.items ++ octets_held rows c.settled_if.result) (take count block) after c.self.view_is read goes
    (next_told _ left (drop (c.self.inside.next + 1) parts) c.index-part.result.now (take count block) at c.in_ok-count.ensures.piece)

use Rattle.std.proofs.Common.{rules, ◌≡◌, ◌∙◌, ◌*◌, ◌/◌, ◌++◌, ℕ, List, sym, ap, length, take, arith, append_assoc}
use Rattle.b64_lines.proofs.CutLemmas.{is_some}
use Rattle.b64_lines.proofs.WriterLemmas.{as_seen, behind_later, full_kept, kept_more, kept_room, piece_written, seen_room}
use Rattle.b64_lines.proofs.writer.LineWriter.piece.Goals as goal

pub put_line-at-requires-clause-room : goal.put_line-at-requires-clause-room
put_line-at-requires-clause-room c =
    let kept : List ℕ = take c.self.inside.kept c.self.inside.line in
    let filled : List ℕ = take c.put_behind-self-inside.result c.put_behind-self-inside.new.line in
    let front : List ℕ = c.split_at.result.0.now in
    let rest : List ℕ = c.split_at.result.1.now in
    let some = is_some _ _ c.is_empty.ensures c.if-is_empty.false in
    let low = c.self.invariant.1 in
    let size = c.octets_of_line.ensures.size in
    let full : length c.self.inside.line ≡ 747 = search rules in
    let long : length filled ≡ c.self.inside.form.length / 4 * 3 =
    full_kept c.octets_of_line.result c.self.inside.kept c.min.result (length c.args.octets.now) c.self.inside.line front rest filled full c.octets_of_line.ensures.most (omega (arith, low, size)) c.min.ensures c.split_at.ensures.front_len c.split_at.ensures.back_len some
    c.put_behind-self-inside.ensures.put ∙ size in
    let given : List ℕ = c.requires.room.0 in
    let h = as_seen c.args.self.now c.self.inside.form c.self.inside.at kept given c.args.into.now (sym c.self.view_is) c.requires.room.1 in
    let room = seen_room c.args.self.now c.self.inside.form c.self.inside.at kept (given ++ c.args.octets.now) c.args.into.now (sym c.self.view_is) c.requires.room.2 in
    let both = kept_room c.self.inside.form c.self.inside.at filled (given ++ front) rest c.args.into.now (given ++ c.args.octets.now) c.self.invariant.0
    (kept_more c.self.inside.form c.self.inside.at kept given front c.args.into.now filled h c.put_behind-self-inside.ensures.put) long some
    (ap (λ (xs : List ℕ). given ++ xs) c.split_at.ensures.by_index.0 ∙ sym (append_assoc given front rest)) room in
    both.0

pub put_lines-at-requires-clause-room : goal.put_lines-at-requires-clause-room
put_lines-at-requires-clause-room c =
    let kept : List ℕ = take c.self.inside.kept c.self.inside.line in
    let filled : List ℕ = take c.put_behind-self-inside.result c.put_behind-self-inside.new.line in
    let front : List ℕ = c.split_at.result.0.now in
    let rest : List ℕ = c.split_at.result.1.now in
    let some = is_some _ _ c.is_empty.ensures c.if-is_empty.false in
    let low = c.self.invariant.1 in
    let size = c.octets_of_line.ensures.size in
    let full : length c.self.inside.line ≡ 747 = search rules in
    let long : length filled ≡ c.self.inside.form.length / 4 * 3 =
    full_kept c.octets_of_line.result c.self.inside.kept c.min.result (length c.args.octets.now) c.self.inside.line front rest filled full c.octets_of_line.ensures.most (omega (arith, low, size)) c.min.ensures c.split_at.ensures.front_len c.split_at.ensures.back_len some
    c.put_behind-self-inside.ensures.put ∙ size in
    let given : List ℕ = c.requires.room.0 in
    let h = as_seen c.args.self.now c.self.inside.form c.self.inside.at kept given c.args.into.now (sym c.self.view_is) c.requires.room.1 in
    let room = seen_room c.args.self.now c.self.inside.form c.self.inside.at kept (given ++ c.args.octets.now) c.args.into.now (sym c.self.view_is) c.requires.room.2 in
    let both = kept_room c.self.inside.form c.self.inside.at filled (given ++ front) rest c.args.into.now (given ++ c.args.octets.now) c.self.invariant.0
    (kept_more c.self.inside.form c.self.inside.at kept given front c.args.into.now filled h c.put_behind-self-inside.ensures.put) long some
    (ap (λ (xs : List ℕ). given ++ xs) c.split_at.ensures.by_index.0 ∙ sym (append_assoc given front rest)) room in
    let enough = both.1 in
    let end = c.put_line-at.ensures.end in
    let same = c.put_line-at.ensures.size in
    omega (arith, enough, end, same)

pub returns-clause-written : goal.returns-clause-written
returns-clause-written c = λ given was.
    let kept : List ℕ = take c.self.inside.kept c.self.inside.line in
    let filled : List ℕ = take c.put_behind-self-inside.result c.put_behind-self-inside.new.line in
    let front : List ℕ = c.split_at.result.0.now in
    let rest : List ℕ = c.split_at.result.1.now in
    let some = is_some _ _ c.is_empty.ensures c.if-is_empty.false in
    let low = c.self.invariant.1 in
    let size = c.octets_of_line.ensures.size in
    let full : length c.self.inside.line ≡ 747 = search rules in
    let long : length filled ≡ c.self.inside.form.length / 4 * 3 =
    full_kept c.octets_of_line.result c.self.inside.kept c.min.result (length c.args.octets.now) c.self.inside.line front rest filled full c.octets_of_line.ensures.most (omega (arith, low, size)) c.min.ensures c.split_at.ensures.front_len c.split_at.ensures.back_len some
    c.put_behind-self-inside.ensures.put ∙ size in
    let h = as_seen c.args.self.now c.self.inside.form c.self.inside.at kept given c.args.into.now (sym c.self.view_is) was in
    piece_written c.self.inside.form c.self.inside.at filled (given ++ front) rest c.args.into.now c.put_line-at.result c.put_line-at.new.into c.put_lines-at.result.1.now c.put_lines-at.result.0 c.put_lines-at.new.into
    (take c.put_behind-self-inside-2.result c.put_behind-self-inside-2.new.line) (given ++ c.args.octets.now) c.self.invariant.0
    (kept_more c.self.inside.form c.self.inside.at kept given front c.args.into.now filled h c.put_behind-self-inside.ensures.put) long some
    c.put_line-at.ensures.put c.put_lines-at.ensures.written c.put_lines-at.ensures.within c.put_behind-self-inside-2.ensures.put
    (ap (λ (xs : List ℕ). given ++ xs) c.split_at.ensures.by_index.0 ∙ sym (append_assoc given front rest))

pub returns-clause-behind : goal.returns-clause-behind
returns-clause-behind c =
    c.put_lines-at.ensures.behind ∙ behind_later c.put_line-at.result c.put_lines-at.result.0 c.args.into.now c.put_line-at.new.into c.put_lines-at.ensures.order c.put_line-at.ensures.behind

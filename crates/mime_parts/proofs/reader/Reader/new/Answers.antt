use Rattle.std.proofs.Common.{refl}
use Rattle.mime_parts.proofs.ReaderLemmas.{read_start}
use Rattle.mime_parts.proofs.reader.Reader.new.Goals as goal

pub returns : goal.returns
returns c = read_start c.args.message.now _ c.new.ensures.items refl refl c.new-2.ensures.items

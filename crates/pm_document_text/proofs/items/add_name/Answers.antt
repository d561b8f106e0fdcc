use Rattle.pm_print.proofs.Members.{plain-name}
use Rattle.pm_document_text.proofs.items.add_name.Goals as goal

pub add_quoted-requires : goal.add_quoted-requires
add_quoted-requires c = rw c.bytes.ensures.bytes (plain-name c.args.name.now c.bytes.ensures.named)

use Rattle.output_lines.specs.Words.{header_words, body_words}
use Rattle.output_lines.proofs.Texts.{two_printed, header_of}
use Rattle.output_lines.proofs.text.put_lsa_text.Goals as goal

pub returns : goal.returns
returns c =
    let l = c.args.lsa.now in
    two_printed _ (header_words l.header) (body_words l.body) _ _ (header_of _ _ _ _ c.header.ensures.value c.in_ok-put_header.ensures) c.in_ok-put_body.ensures

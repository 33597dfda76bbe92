use Rattle.std.proofs.Common.{◌∙◌}
use Rattle.catalog_doc.proofs.Results.{on_ok}
use Rattle.catalog_doc.proofs.Sent.{number_as, page_sent, text_as}
use Rattle.catalog_doc.proofs.page.PageTextsSerialize.serialize.Goals as goal

pub returns : goal.returns
returns g c =
    let written = g.S.Serializer.written in
    on_ok c.end_map.result (page_sent c.args.self.now (written c.args.out.now) (written c.begin_map.new.self) (written c.send_text.new.out) (written c.send_text-2.new.out)
    (written c.send_text-3.new.out) (written c.key.new.self) (written c.u64.new.self) (written c.key-2.new.self) (written c.serialize.new.out) (written c.send_text-4.new.out)
    (written c.end_map.new.self) c.in_ok-begin_map.ensures (text_as _ _ _ _ _ c.deref.ensures c.in_ok-send_text.ensures)
    (text_as _ _ _ _ _ c.deref-2.ensures c.in_ok-send_text-2.ensures) (text_as _ _ _ _ _ c.deref-3.ensures c.in_ok-send_text-3.ensures)
    c.in_ok-key.ensures (number_as _ _ _ _ (c.len.ensures ∙ c.args.self.now.rows.ok.0) c.in_ok-u64.ensures) c.in_ok-key-2.ensures c.in_ok-serialize.ensures (text_as _ _ _ _ _ c.deref-4.ensures c.in_ok-send_text-4.ensures)) c.end_map.ensures

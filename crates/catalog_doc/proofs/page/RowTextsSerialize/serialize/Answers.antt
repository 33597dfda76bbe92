use Rattle.catalog_doc.proofs.Results.{on_ok}
use Rattle.catalog_doc.proofs.Sent.{row_sent, text_as}
use Rattle.catalog_doc.proofs.page.RowTextsSerialize.serialize.Goals as goal

pub returns : goal.returns
returns g c =
    let written = g.S.Serializer.written in
    on_ok c.end_map.result (row_sent c.args.self.now (written c.args.out.now) (written c.begin_map.new.self) (written c.send_text.new.out) (written c.send_text-2.new.out)
    (written c.send_text-3.new.out) (written c.send_text-4.new.out) (written c.send_text-5.new.out) (written c.send_text-6.new.out) (written c.end_map.new.self)
    c.in_ok-begin_map.ensures (text_as _ _ _ _ _ c.deref.ensures c.in_ok-send_text.ensures) c.in_ok-send_text-2.ensures
    (text_as _ _ _ _ _ c.deref-2.ensures c.in_ok-send_text-3.ensures) (text_as _ _ _ _ _ c.deref-3.ensures c.in_ok-send_text-4.ensures) c.in_ok-send_text-5.ensures
    (text_as _ _ _ _ _ c.deref-4.ensures c.in_ok-send_text-6.ensures)) c.end_map.ensures

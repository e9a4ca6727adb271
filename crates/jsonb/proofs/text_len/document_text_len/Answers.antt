use Rattle.jsonb.proofs.text_len.document_text_len.Goals as goal

pub node_len-requires-clause-room : goal.node_len-requires-clause-room
node_len-requires-clause-room c =
    let node = c.node.ensures in rw node.tree (c.requires.room _ node.shallow)

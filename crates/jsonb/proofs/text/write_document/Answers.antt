use Rattle.jsonb.proofs.text.write_document.Goals as goal

pub write_node-requires-clause-room : goal.write_node-requires-clause-room
write_node-requires-clause-room g c =
    let node = c.node.ensures in rw node.tree (c.requires.room _ node.shallow)

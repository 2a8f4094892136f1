use Rattle.packets.proofs.link.LinkType.ipv4_of.Goals as goal

pub returns-in-Null : goal.returns-in-Null
returns-in-Null c = rw c.in-Null.is c.behind_any_family.ensures

pub returns-in-Ethernet : goal.returns-in-Ethernet
returns-in-Ethernet c = rw c.in-Ethernet.is c.behind_ethernet.ensures

pub returns-in-Loop : goal.returns-in-Loop
returns-in-Loop c = rw c.in-Loop.is c.behind_family.ensures

pub returns-in-CookedV1 : goal.returns-in-CookedV1
returns-in-CookedV1 c = rw c.in-CookedV1.is c.behind_cooked_v1.ensures

pub returns-in-CookedV2 : goal.returns-in-CookedV2
returns-in-CookedV2 c = rw c.in-CookedV2.is c.behind_cooked_v2.ensures

mod OnePass
